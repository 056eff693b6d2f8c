-- What an answer that starts at a checkpoint is refused for, besides what refuses a whole one.
use Rattle.std.specs.Prelude.{if◌then◌else◌, ℕ, [], ◌∷◌, List, None, Option, Some, nat_lt}
use Rattle.std.specs.Str.{bytes_eq}
use Rattle.sha2.specs.Sha256.{sha256}
use Rattle.nr_spec_log.specs.Chain.{LogEntry}
use Rattle.nr_spec_log.specs.Answer.{AnswerFile}
use Rattle.nr_spec_history.specs.Conflicts.{Period}

pub data Late : Type 0 where
  -- the checkpoint's time isn't before the period
  Time : (checkpoint : ℕ) (from : ℕ) → Late
  -- the body isn't the one whose digest the checkpoint holds
  Body : (body : List ℕ) (entry : List ℕ) → Late

abbrev pub late_by : Period → List ℕ → LogEntry → Option Late
late_by period body checkpoint =
    if nat_lt checkpoint.time period.from
    then (if bytes_eq (sha256 body) checkpoint.content then None else Some (Body (sha256 body) checkpoint.content))
    else Some (Time checkpoint.time period.from)

-- by the first entry of an answer that has a body; a whole answer has none
abbrev pub late_of : Period → Option (List ℕ) → List LogEntry → Option Late
late_of period None entries = None
late_of period (Some body) [] = None
late_of period (Some body) (checkpoint ∷ entries) = late_by period body checkpoint

abbrev pub late_fact : AnswerFile → Period → Option Late
late_fact answer period = late_of period answer.body answer.entries
