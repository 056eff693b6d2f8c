-- Parts of logs, and the answers that are true of a log.
use Rattle.std.specs.Prelude.{◌+◌, ◌++◌, ◌<◌, ◌≡◌, List, None, Some, length}
use Rattle.std.specs.List.{AllByRecursion}
use Rattle.nr_spec_wire.specs.Reading.{IsBytes}
use Rattle.nr_spec_log.specs.Chain.{LogEntry, genesis_value}
use Rattle.nr_spec_log.specs.Answer.{AnswerFile, AreEntriesFrom}
use Rattle.nr_spec_history.specs.Conflicts.{Period, answer_value}
use Rattle.nr_spec_report.specs.Wrong.{nothing_before}
use Rattle.nr_spec_bodies.specs.Bases.{body_of, state_after}

-- a log, as an answer of all its entries
abbrev pub whole : List LogEntry → AnswerFile → AnswerFile
whole log answer = record {
  asn = answer.asn;
  first = 1;
  prev = genesis_value answer.asn;
  body = None;
  entries = log;
  head = answer.head;
}

-- a log: its entries have the fields of the formats, and their times never run back
pub record IsLog (log : List LogEntry) : Type 0 where
  pub entries : AreEntriesFrom 0 log
  pub bytes : AllByRecursion (λ e. IsBytes e.content) log

-- An answer holds the entries of a log that stand behind these: with them its entries are the log, it begins with the
-- number after them, and its previous value is the chain value of the last of them.
pub record IsBehind (before log : List LogEntry) (answer : AnswerFile) : Type 0 where
  pub entries : log ≡ before ++ answer.entries
  pub first : answer.first ≡ length before + 1
  pub prev : answer.prev ≡ answer_value (whole before answer)

-- An answer that starts at a checkpoint is true of a log: it holds the log's entries behind some, and its body is that of
-- the state which these leave.
pub record IsTrue (log : List LogEntry) (answer : AnswerFile) : Type 0 where
  pub before : List LogEntry
  pub behind : IsBehind before log answer
  pub body : answer.body ≡ Some (body_of (state_after nothing_before before))

-- each of these entries has a time before the period
abbrev pub AreBefore : Period → List LogEntry → Type 0
AreBefore period entries = AllByRecursion (λ e. e.time < period.from) entries
