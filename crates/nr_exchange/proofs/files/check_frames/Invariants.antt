use Rattle.std.proofs.Common.{◌≡◌, ◌-◌, length}
use Rattle.nr_spec_wire.specs.Reading.{fault, rows_at, all_rows_at}
use Rattle.nr_spec_frames.specs.Frames.{framed_at}
use Rattle.nr_exchange.proofs.files.check_frames.Given as goal

-- The frames that are left have the fault that all of them have.
abbrev pub invariant-loop : goal.invariant-loop
invariant-loop l = fault (rows_at framed_at (length l.cursor.rest - l.counter) l.ahead) ≡ fault (all_rows_at framed_at l.cursor)
