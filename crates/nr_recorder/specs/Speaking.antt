-- What an event that isn't idle appends behind its COMMITs.
use Rattle.std.specs.Prelude.{ℕ, [], ◌∷◌, List, None, Option, Some}
use Rattle.nr_spec_log.specs.Chain.{LogEntry}
use Rattle.nr_spec_entry.specs.Contents.{Checkpoint, Commit, Content, auditor}
use Rattle.nr_spec_steps.specs.Steps.{body_digest, made}

-- its entry, or at the end the checkpoint and the head for the auditor
abbrev pub ending : List LogEntry → ℕ → ℕ → Option Content → List LogEntry
ending log now leaf (Some content) = made now content ∷ []
ending log now leaf None = made now (Checkpoint (body_digest log)) ∷ made now (Commit auditor leaf) ∷ []
