use Rattle.nr_verify_wrong.proofs.walk.is_wrong.Given as goal
use Rattle.nr_verify_wrong.specs.Passed.{Counted}

abbrev pub invariant-loop-entry : goal.invariant-loop-entry
invariant-loop-entry l = Counted l.fn.entries l.entry-iterator l.before l.left l.counts
