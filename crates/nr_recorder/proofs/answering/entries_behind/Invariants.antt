use Rattle.std.proofs.Common.{◌≡◌, ◌++◌, drop}
use Rattle.nr_recorder.proofs.answering.entries_behind.Given as goal

abbrev pub invariant-loop-i : goal.invariant-loop-i
invariant-loop-i l = l.later ++ drop l.i l.entries ≡ drop l.count l.entries
