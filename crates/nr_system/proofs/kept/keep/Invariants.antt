use Rattle.std.proofs.Common.{◌≤◌}
use Rattle.nr_system.proofs.kept.keep.Given as goal

abbrev pub invariant-loop-byte : goal.invariant-loop-byte
invariant-loop-byte l = l.at ≤ 200
