use Rattle.std.proofs.Common.{◌≡◌, ◌++◌}
use Rattle.nr_judging.proofs.gathered.Gathered.list.Given as goal

abbrev pub invariant-loop-prefix : goal.invariant-loop-prefix
invariant-loop-prefix l = l.list.items ++ l.prefix-iterator ≡ l.self
