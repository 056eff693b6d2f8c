use Rattle.std.proofs.Common.{◌≡◌, ◌-◌, length}
use Rattle.nr_spec_store.specs.LogFile.{entries_to_end}
use Rattle.nr_store.specs.Walks.{last_after}
use Rattle.nr_store.proofs.reading.check_entries.Given as goal

-- The entries that are left end as all of them do.
abbrev pub invariant-loop : goal.invariant-loop
invariant-loop l = last_after l.last (entries_to_end l.last (length l.part.rest - l.counter) l.ahead) ≡ last_after l.before (entries_to_end l.before (length l.part.rest) l.part)
