-- The answers that a network gives of its log: from entry 1, or from a checkpoint on.
use Rattle.std.specs.Prelude.{if◌then◌else◌, zero, suc, ℕ, ◌+◌, [], ◌∷◌, Bool, Err, List, None, Ok, Option, Result, Some, drop, false, take, true}
use Rattle.nr_spec_log.specs.Chain.{LogEntry, value_after}
use Rattle.nr_spec_log.specs.Answer.{AnswerFile}
use Rattle.nr_spec_history.specs.KeyFiles.{Key}
use Rattle.nr_spec_entry.specs.Contents.{Checkpoint, Content, auditor}
use Rattle.nr_spec_entry.specs.ContentReading.{content_of}
use Rattle.nr_spec_report.specs.Wrong.{nothing_before}
use Rattle.nr_spec_steps.specs.Heads.{answer_from_first, head_of, last_commit, log_chain}
use Rattle.nr_spec_bodies.specs.Bases.{body_of, state_after}

-- why there is none
pub data NoAnswer : Type 0 where
  -- no entry is a COMMIT to the auditor
  NoHead : NoAnswer
  -- the entry of this number isn't a CHECKPOINT in the grammar before the head
  NoCheckpoint : (start : ℕ) → NoAnswer

abbrev pub is_checkpoint : Option Content → Bool
is_checkpoint (Some (Checkpoint body)) = true
is_checkpoint other = false

abbrev pub begins_with_checkpoint : List LogEntry → Bool
begins_with_checkpoint [] = false
begins_with_checkpoint (e ∷ later) = is_checkpoint (content_of e)

-- of a log that ends with its head, what stands behind the first n entries, with the body of the state after these
abbrev pub answer_behind : Key → ℕ → List LogEntry → AnswerFile
answer_behind key n log = record {
  asn = key.asn;
  first = n + 1;
  prev = value_after (log_chain key.asn) (take n log);
  body = Some (body_of (state_after nothing_before (take n log)));
  entries = drop n log;
  head = head_of key log;
}

-- from an entry on: the whole log from entry 1, and else from a checkpoint
abbrev pub answer_at : Key → List LogEntry → ℕ → Result AnswerFile NoAnswer
answer_at key log zero = Err (NoCheckpoint 0)
answer_at key log (suc zero) = Ok (answer_from_first key log)
answer_at key log (suc (suc n)) =
    if begins_with_checkpoint (drop (suc n) log)
    then Ok (answer_behind key (suc n) log) else Err (NoCheckpoint (suc (suc n)))

abbrev pub answer_up_to : Key → List LogEntry → ℕ → Option ℕ → Result AnswerFile NoAnswer
answer_up_to key log start None = Err NoHead
answer_up_to key log start (Some head) = answer_at key (take head log) start

-- the answer from an entry on, up to the last COMMIT to the auditor
unfoldable pub started_answer : Key → List LogEntry → ℕ → Result AnswerFile NoAnswer
started_answer key log start = answer_up_to key log start (last_commit auditor log)
