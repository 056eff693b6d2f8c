-- What is made of a log that is answered.
use Rattle.std.specs.Prelude.{◌≡◌, List, Ok, Err, Option, Result, Some, ℕ}
use Rattle.nr_spec_log.specs.Chain.{LogEntry}
use Rattle.nr_spec_log.specs.Answer.{AnswerFile}
use Rattle.nr_spec_history.specs.KeyFiles.{Key}
use Rattle.nr_spec_plans.specs.Plans.{Done, Refuse, save, want, ◌>>=◌}
use Rattle.nr_spec_steps.specs.Heads.{whole_answer}
use Rattle.nr_spec_program.specs.Recording.{answer_bytes, answered_ending, entries_in, sealed_answer}
use Rattle.nr_spec_program.specs.Command.{Ending, Work}
use Rattle.nr_spec_store.specs.LogFile.{LogFile}
use Rattle.nr_command_parts.specs.Views.{refusal_of}
use Rattle.nr_log_commands.specs.declared.answering.WholeAnswer.{WholeAnswer}
use Rattle.nr_command_parts.specs.declared.refusal.Stop.{Stop}
use Rattle.nr_command_parts.specs.declared.refusal.Stop.TheVariants as stop

-- what `answer` does once it has the log, and the log is the key's: the answer is made, and written in whole
unfoldable pub sealing_plan : (out : List ℕ) → Key → Option LogFile → Work Ending
sealing_plan out key found = do
  ready ← want
  answer ← sealed_answer (whole_answer key (entries_in found))
  bytes ← answer_bytes answer
  room ← want
  saved ← save out bytes
  Done (answered_ending answer)

-- the bytes of the answer, which starts with entry 1, and its last entry
pub record IsWhole (key : Key) (log : List LogEntry) (w : WholeAnswer) : Type 0 where
  pub answer : AnswerFile
  pub whole : whole_answer key log ≡ Some answer
  pub bytes : answer_bytes answer ≡ Done w.bytes.items
  pub first : answer.first ≡ 1
  pub last : answer.head.seq ≡ w.last

-- The answer of a log is made, or refused, or memory runs out.
abbrev pub AnswersLog : Key → List LogEntry → Result WholeAnswer Stop → Type 0
AnswersLog key log (Ok w) = IsWhole key log w
AnswersLog key log (Err (stop.Refused r)) = (sealed_answer (whole_answer key log) >>= answer_bytes) ≡ Refuse (refusal_of r)
AnswersLog key log (Err stop.ReadFault) = ⊥
AnswersLog key log (Err stop.WriteFault) = ⊥
AnswersLog key log (Err stop.Memory) = Unit {0}
