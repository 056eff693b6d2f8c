-- What an audit gives of any answer, whole or from a checkpoint: what refuses it first, or the report.
use Rattle.std.specs.Prelude.{if◌then◌else◌, ℕ, ◌+◌, [], ◌∷◌, Bool, Err, List, None, Ok, Option, Result, Some, length, nat_le, true}
use Rattle.nr_spec_log.specs.Chain.{LogEntry}
use Rattle.nr_spec_log.specs.Authenticator.{Authenticator}
use Rattle.nr_spec_log.specs.Answer.{AnswerFile, body_offset}
use Rattle.nr_spec_history.specs.Conflicts.{Period}
use Rattle.nr_spec_report.specs.Wrong.{Base, nothing_before}
use Rattle.nr_spec_truth.specs.Truths.{Truth}
use Rattle.nr_spec_outcome.specs.Report.{Report}
use Rattle.nr_spec_outcome.specs.Outcome.{Audited, Fact, Promise, outcome_over}
use Rattle.nr_spec_bodies.specs.Reading.{base_of}
use Rattle.nr_spec_slices.specs.Late.{Late, late_fact}

pub data Refusal : Type 0 where
  -- the body is malformed at this place of the answer's file
  Malformed : (place : ℕ) → Refusal
  -- what refuses a whole answer
  Refused : (fact : Fact) → Refusal
  -- its checkpoint is late, or is of another body
  Checkpoint : (late : Late) → Refusal

-- ---- the base

-- the last time that a body states isn't above that of the entry which follows
abbrev pub is_in_time : ℕ → List LogEntry → Bool
is_in_time last [] = true
is_in_time last (e ∷ entries) = nat_le last e.time

-- a fault inside the body counts from the start of the file; a last time that is too late makes the time of the first
-- entry the fault, which stands behind the body and the number of entries
abbrev pub stated : List ℕ → List LogEntry → Result Base ℕ → Result Base Refusal
stated body entries (Ok base) =
    if is_in_time base.tally.last entries then Ok base else Err (Malformed (body_offset + length body + 4))
stated body entries (Err place) = Err (Malformed (body_offset + place))

-- before a whole answer nothing stands
abbrev pub base_by : Option (List ℕ) → List LogEntry → Result Base Refusal
base_by None entries = Ok nothing_before
base_by (Some body) entries = stated body entries (base_of body)

-- ---- the outcome

-- a late checkpoint is told before the promises in force, and after every other fact
abbrev pub with_late : Option Late → Result Report Fact → Result Report Refusal
with_late None (Ok report) = Ok report
with_late None (Err fact) = Err (Refused fact)
with_late (Some late) (Ok report) = Err (Checkpoint late)
with_late (Some late) (Err (Promise found file)) = Err (Checkpoint late)
with_late (Some late) (Err fact) = Err (Refused fact)

abbrev pub outcome_by : List ℕ → List Audited → Truth → AnswerFile → Period → List Authenticator → Result Base Refusal
    → Result Report Refusal
outcome_by root files truth answer period auths (Ok base) =
    with_late (late_fact answer period) (outcome_over root files truth base answer period auths)
outcome_by root files truth answer period auths (Err refusal) = Err refusal

unfoldable pub outcome_of : List ℕ → List Audited → Truth → AnswerFile → Period → List Authenticator → Result Report Refusal
outcome_of root files truth answer period auths =
    outcome_by root files truth answer period auths (base_by answer.body answer.entries)
