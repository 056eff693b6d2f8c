-- What turns of a recording append.
use Rattle.std.specs.Prelude.{◌≡◌, ◌≤◌, ℕ, List, None, Option, Ok, Err, Result}
use Rattle.nr_spec_log.specs.Chain.{LogEntry}
use Rattle.nr_spec_entry.specs.Contents.{Content}
use Rattle.nr_spec_plans.specs.Plans.{want, ◌>>=◌}
use Rattle.nr_spec_store.specs.LogFile.{LogFile}
use Rattle.nr_spec_steps.specs.Events.{Event}
use Rattle.nr_spec_steps.specs.Steps.{Recorder, Spent}
use Rattle.nr_spec_steps.specs.Telling.{most_raw}
use Rattle.nr_spec_steps.specs.Turns.{turn}
use Rattle.nr_spec_recording.specs.Events.{raw_length}
use Rattle.nr_spec_program.specs.Command.{KeySpent, Prevented, Work}
use Rattle.nr_spec_program.specs.Recording.{batch_plan, turned}
use Rattle.nr_recorder.specs.Kept.{Kept, with_entries}
use Rattle.nr_command_parts.specs.Views.{refusal_of}
use Rattle.nr_command_parts.specs.declared.refusal.Stop.{Stop}
use Rattle.nr_command_parts.specs.declared.refusal.Stop.TheVariants as stop

-- what is acknowledged of frames where none come
abbrev pub no_frames : List LogEntry → List ℕ → Option Content
no_frames = λ log bytes. None

-- An entry has room for the event's message.
abbrev pub IsShort : Event → Type 0
IsShort event = raw_length event ≤ most_raw

-- One turn: its batch is on the disk before the next one comes.
unfoldable pub turn_plan : (name : List ℕ) → Recorder → LogFile → List Event → Work LogFile
turn_plan name r log events = do
  room ← want
  batch ← turned (turn r log.entries events)
  batch_plan name log batch

-- The core with what is appended behind its log; or the key is spent, or memory ran out.
abbrev pub Applies : Kept → Result (List LogEntry) Spent → Result Kept Stop → Type 0
Applies core appended (Ok after) =
    (batch : List LogEntry) × (appended ≡ Ok batch) × (after ≡ with_entries core batch)
Applies core appended (Err (stop.Refused r)) =
    (spent : Spent) × (appended ≡ Err spent) × (refusal_of r ≡ Prevented (KeySpent spent))
Applies core appended (Err stop.ReadFault) = ⊥
Applies core appended (Err stop.WriteFault) = ⊥
Applies core appended (Err stop.Memory) = Unit {0}
