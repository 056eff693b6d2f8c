use Rattle.std.proofs.Common.{◌∙◌, sym}
use Rattle.nr_recorder.proofs.answering.entries_behind.Goals as goal
use Rattle.nr_recorder.proofs.Behind.{behind_more}

pub loop-i-preserved : goal.loop-i-preserved
loop-i-preserved c =
    behind_more c.args.entries.now c.args.count c.loop-i.i c.loop-i.later c.push.new.self c.in-Some.entry
    c.loop-i.invariant c.in_ok-push-in-Some.ensures.ok (sym c.get.ensures ∙ c.in-Some.is)
