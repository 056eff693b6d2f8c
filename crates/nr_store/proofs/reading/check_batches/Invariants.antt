use Rattle.std.proofs.Common.{◌≡◌, ◌-◌, length}
use Rattle.nr_spec_store.specs.LogFile.{batches_at}
use Rattle.nr_store.specs.Walks.{end_of}
use Rattle.nr_store.proofs.reading.check_batches.Given as goal

-- The batches that are left end as all of them do.
abbrev pub invariant-loop : goal.invariant-loop
invariant-loop l = end_of (batches_at l.last (length l.cursor.rest - l.counter) l.ahead) ≡ end_of (batches_at 0 (length l.cursor.rest) l.cursor)
