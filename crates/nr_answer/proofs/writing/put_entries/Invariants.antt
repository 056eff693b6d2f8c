use Rattle.std.proofs.Common.{◌≡◌, ◌++◌, drop, map}
use Rattle.std.specs.List.{flat_map}
use Rattle.nr_spec_log.specs.Answer.{entry}
use Rattle.nr_chain.specs.Views.{entry_of}
use Rattle.nr_answer.proofs.writing.put_entries.Given as goal

-- What is there so far, joined with what is made of the rest, is what is made of all.
abbrev pub invariant-loop-i : goal.invariant-loop-i
invariant-loop-i l = l.out.items ++ flat_map entry (drop l.i (map entry_of l.entries)) ≡ l.fn.out.items ++ flat_map entry (map entry_of l.entries)
