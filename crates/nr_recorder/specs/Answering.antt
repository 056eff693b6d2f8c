-- What an answer gives.
use Rattle.std.specs.Prelude.{ℕ, ◌<◌, ◌≡◌, ◌≤◌, Err, IfSome, List, None, Ok, Option, Result, Some, length, unwrap_or}
use Rattle.nr_spec_log.specs.Chain.{LogEntry, value_after}
use Rattle.nr_spec_log.specs.Answer.{AnswerFile, answer_file, last_time, most_body}
use Rattle.nr_spec_entry.specs.ContentReading.{content_of}
use Rattle.nr_spec_routes.specs.LookBack.{last_of}
use Rattle.nr_spec_steps.specs.Heads.{leaf_in, log_chain}
use Rattle.nr_answer.specs.Writing.{most_answer}
use Rattle.nr_spec_starts.specs.Starts.{NoAnswer, NoCheckpoint, NoHead}
use Rattle.nr_recorder.specs.declared.answering.AnswerError.{AnswerError}
use Rattle.nr_recorder.specs.declared.answering.AnswerError.TheVariants as error

-- the body, where there is one, is no longer than a body may be
abbrev pub FitsBody : Option (List ℕ) → Type 0
FitsBody body = IfSome body (λ bytes. length bytes ≤ most_body)

-- there is a body, of so many bytes, which are too many
abbrev pub IsLongBody : ℕ → Option (List ℕ) → Type 0
IsLongBody n None = ⊥
IsLongBody n (Some body) = (n ≡ length body) × (most_body < length body)

-- The answer is spelled, or there is none, or its body or else its file would be longer than these may be. Memory may
-- always run out.
abbrev pub Answers : {V : Type 0} → (V → List ℕ) → Result V AnswerError → Result AnswerFile NoAnswer → Type 0
Answers bytes (Ok out) (Err why) = ⊥
Answers bytes (Ok out) (Ok answer) =
    (bytes out ≡ answer_file answer) × FitsBody answer.body × (length (answer_file answer) ≤ most_answer)
Answers bytes (Err error.NoHead) answer = answer ≡ Err NoHead
Answers bytes (Err (error.NoCheckpoint start)) answer = answer ≡ Err (NoCheckpoint start)
Answers bytes (Err (error.LongBody n)) (Err why) = ⊥
Answers bytes (Err (error.LongBody n)) (Ok answer) = IsLongBody n answer.body
Answers bytes (Err (error.TooLong n)) (Err why) = ⊥
Answers bytes (Err (error.TooLong n)) (Ok answer) =
    (n ≡ length (answer_file answer)) × FitsBody answer.body × (most_answer < length (answer_file answer))
Answers bytes (Err error.Memory) answer = Unit {0}

-- what the head of the log of an AS states: the number, the chain value and the time of its last entry; and the leaf of
-- the last COMMIT, or 0
pub record IsTip (asn : ℕ) (log : List LogEntry) (seq : ℕ) (value : List ℕ) (time leaf : ℕ) : Type 0 where
  pub number : seq ≡ length log
  pub chained : value ≡ value_after (log_chain asn) log
  pub last : time ≡ last_time 0 log
  pub committed : leaf ≡ unwrap_or (last_of (λ e. leaf_in (content_of e)) log) 0
