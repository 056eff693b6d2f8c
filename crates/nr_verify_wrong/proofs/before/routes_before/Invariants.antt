use Rattle.nr_verify_wrong.proofs.before.routes_before.Given as goal
use Rattle.nr_verify_wrong.specs.Passed.{Routed}

abbrev pub invariant-loop-entry : goal.invariant-loop-entry
invariant-loop-entry l = Routed l.fn.entries l.entry-iterator l.before l.left l.table
