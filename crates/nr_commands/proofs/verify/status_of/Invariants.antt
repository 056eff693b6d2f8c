use Rattle.std.proofs.Common.{◌≡◌, drop}
use Rattle.std.specs.Prelude.{not}
use Rattle.std.specs.List.{list_any}
use Rattle.nr_commands.proofs.verify.status_of.Given as goal

-- Some claim isn't true exactly where one that is left isn't.
abbrev pub invariant-loop-is_true : goal.invariant-loop-is_true
invariant-loop-is_true l = list_any not (drop l.is_true-index l.claims) ≡ list_any not l.claims
