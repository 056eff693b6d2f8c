use Rattle.std.proofs.Common.{◌≡◌, ◌-◌, None}
use Rattle.nr_spec_wire.specs.Reading.{IsOnward}
use Rattle.nr_spec_bodies.specs.Reading.{rows_behind}
use Rattle.nr_discipline.proofs.RowsRead.{behind}
use Rattle.nr_discipline.proofs.RowsEnd.{TakesBehind}
use Rattle.nr_discipline.proofs.rows_reading.read_rows.Given as goal

-- The rows so far, joined with what reading the others gives, are what reading all of them gives; and one behind the
-- last of them ascends at their end.
abbrev pub invariant-loop : goal.invariant-loop
invariant-loop l = record {
  so_far : behind l.state (rows_behind l.before (l.count - l.counter) l.cursor) ≡ rows_behind None l.count l.fn.cursor;
  order : TakesBehind l.before l.state;
  onward : IsOnward l.fn.cursor l.cursor;
}
