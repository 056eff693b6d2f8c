-- What an answer, whole or from a checkpoint on, is refused for by itself, whatever the promise files and the period.
use Rattle.std.specs.Prelude.{Err, Ok, Result, ⊤}
use Rattle.nr_spec_outcome.specs.Report.{Report}
use Rattle.nr_spec_slices.specs.Audits.{Checkpoint, Malformed, Refusal, Refused}
use Rattle.nr_laws_answers.specs.Refusals as whole

-- Its body isn't malformed, and it isn't refused for its head's signature or hash, nor for its first entry. That its
-- checkpoint is late is the period's matter, and that it is of another body the log's.
abbrev pub IsNotOfItself : Result Report Refusal → Type 0
IsNotOfItself (Ok report) = ⊤
IsNotOfItself (Err (Malformed place)) = ⊥
IsNotOfItself (Err (Refused fact)) = whole.IsNotOfItself (Err fact)
IsNotOfItself (Err (Checkpoint late)) = ⊤
