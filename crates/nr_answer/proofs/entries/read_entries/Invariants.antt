use Rattle.std.proofs.Common.{◌≡◌, ◌-◌}
use Rattle.nr_spec_wire.specs.Reading.{IsOnward}
use Rattle.nr_spec_log.specs.Answer.{entries_at}
use Rattle.nr_spec_log.proofs.EntrySteps.{ending}
use Rattle.nr_answer.proofs.entries.read_entries.Given as goal

-- The entries that are left end as all of them do.
abbrev pub invariant-loop : goal.invariant-loop
invariant-loop l = record {
  so_far : ending l.last (entries_at l.wanted l.last (l.count - l.counter) l.cursor) ≡ ending 0 (entries_at l.checkpoint 0 l.count l.start);
  onward : IsOnward l.fn.cursor l.cursor;
  started : l.start ≡ l.fn.cursor;
}
