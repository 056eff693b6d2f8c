use Rattle.std.proofs.Common.{◌≡◌, ◌+◌, drop, length, map}
use Rattle.std.specs.List.{flat_map}
use Rattle.nr_spec_log.specs.Answer.{entry}
use Rattle.nr_chain.specs.Views.{entry_of}
use Rattle.nr_answer.proofs.writing.entries_size.Given as goal

-- The size so far and that of the rest are the size of all.
abbrev pub invariant-loop-i : goal.invariant-loop-i
invariant-loop-i l = l.size + length (flat_map entry (drop l.i (map entry_of l.entries))) ≡ length (flat_map entry (map entry_of l.entries))
