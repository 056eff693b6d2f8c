use Rattle.std.proofs.Common.{◌≡◌, ◌-◌, length}
use Rattle.nr_spec_wire.specs.Reading.{fault, rows_at, all_rows_at}
use Rattle.nr_spec_log.specs.Authenticator.{authenticator_at}
use Rattle.nr_answer.proofs.auths.check_auths.Given as goal

-- The authenticators that are left have the fault that all of them have.
abbrev pub invariant-loop : goal.invariant-loop
invariant-loop l = fault (rows_at authenticator_at (length l.cursor.rest - l.counter) l.ahead) ≡ fault (all_rows_at authenticator_at l.cursor)
