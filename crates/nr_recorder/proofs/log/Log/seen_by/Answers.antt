use Rattle.nr_chain.specs.Views.{entry_of}
use Rattle.nr_recorder.proofs.log.Log.seen_by.Goals as goal
use Rattle.nr_recorder.proofs.Shown.{seen_more}

pub loop-place-preserved : goal.loop-place-preserved
loop-place-preserved c =
    seen_more c.args.neighbour c.args.self.now c.args.from c.loop-place.place c.loop-place.items c.push.new.self c.seen_by.result (entry_of c.at.result)
    c.loop-place.auto.place c.at.ensures c.loop-place.invariant c.in_ok-push.ensures.ok c.seen_by.ensures
