use Rattle.std.proofs.Common.{◌≡◌, take}
use Rattle.nr_rule_types.proofs.copy.copy_promises.Given as goal

abbrev pub invariant-loop-promise : goal.invariant-loop-promise
invariant-loop-promise l = l.items ≡ take l.promise-index l.promises
