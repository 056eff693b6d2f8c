use Rattle.nr_recorder.proofs.log.Log.first.Goals as goal
use Rattle.nr_recorder.proofs.Listing.{taken_more}

pub loop-place-preserved : goal.loop-place-preserved
loop-place-preserved c =
    taken_more c.args.self.now c.loop-place.place c.loop-place.entries c.push.new.self c.at.result c.loop-place.invariant c.in_ok-push.ensures.ok c.at.ensures
