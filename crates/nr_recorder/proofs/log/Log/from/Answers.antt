use Rattle.nr_recorder.proofs.log.Log.from.Goals as goal
use Rattle.nr_recorder.proofs.Listing.{listed_more}

pub loop-place-preserved : goal.loop-place-preserved
loop-place-preserved c =
    listed_more c.args.self.now c.args.at c.loop-place.place c.loop-place.entries c.push.new.self c.at.result c.loop-place.invariant c.in_ok-push.ensures.ok c.at.ensures
