use Rattle.std.proofs.Common.{◌≡◌, ◌++◌, drop, map}
use Rattle.nr_spec_store.specs.LogFile.{spelled}
use Rattle.nr_chain.specs.Views.{entry_of}
use Rattle.nr_store.proofs.spelling.spell_entries.Given as goal

-- What is there so far, joined with what is made of the rest, is what is made of all.
abbrev pub invariant-loop-i : goal.invariant-loop-i
invariant-loop-i l = l.bytes.items ++ spelled (drop l.i (map entry_of l.entries)) ≡ spelled (map entry_of l.entries)
