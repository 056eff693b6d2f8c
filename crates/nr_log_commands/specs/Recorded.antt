-- Parts of what `record` does.
use Rattle.std.specs.Prelude.{ℕ, ◌+◌, ◌++◌, List, [], ◌∷◌, Option}
use Rattle.nr_spec_bgp.specs.Records.{Item}
use Rattle.nr_spec_history.specs.KeyFiles.{Key, key_root}
use Rattle.nr_spec_log.specs.Chain.{LogEntry}
use Rattle.nr_recorder.specs.Kept.{Kept}
use Rattle.nr_recorder.specs.Views.{peers_of}
use Rattle.nr_spec_plans.specs.Plans.{Done, want, ◌>>=◌}
use Rattle.nr_spec_store.specs.LogFile.{LogFile}
use Rattle.nr_spec_steps.specs.Events.{Event}
use Rattle.nr_spec_steps.specs.Steps.{Recorder}
use Rattle.nr_spec_recording.specs.Records.{Speaker, records_of}
use Rattle.nr_spec_recording.specs.Events.{events_of, records_in_order, skipped, too_long, turns_of}
use Rattle.nr_spec_commands.specs.Words.{RecordRequest}
use Rattle.nr_spec_texts.specs.Promises.{PromiseFile, numbers_in}
use Rattle.nr_spec_program.specs.Command.{Ending, MrtInput, Work, load, well_formed}
use Rattle.nr_spec_program.specs.Recording.{born_plan, log_network, long_message, other_network, other_root, recorded_ending, recorder_of, turns_plan, unless}

-- ---- MRT files

-- the records of a file, behind those of the files before it
abbrev pub file_plan : (before : List (List Item)) (number : ℕ) (name : List ℕ) → Work (List (List Item))
file_plan before number name = do
  bytes ← load (MrtInput number) name
  records ← well_formed (MrtInput number) (records_of bytes)
  room ← want
  Done (before ++ records ∷ [])

-- one file behind another
abbrev pub files_plan : (before : List (List Item)) (number : ℕ) → List (List ℕ) → Work (List (List Item))
files_plan before number [] = Done before
files_plan before number (name ∷ others) =
    file_plan before number name >>= λ files. files_plan files (number + 1) others

-- ---- the log

-- the turns of a recorder, behind the log that was found, or is born
abbrev pub appended_plan : (name : List ℕ) → Key → Option LogFile → Recorder → List (List Event) → (skips : ℕ)
    → Work Ending
appended_plan name key found r turns skips = do
  log ← born_plan name key found
  longer ← turns_plan name r log turns
  told ← want
  Done (recorded_ending log longer skips)

-- what the recorder of a promise file and a key keeps of a log
abbrev pub kept_by : PromiseFile → Key → List LogEntry → Kept
kept_by promise key log = record {
  own = numbers_in promise;
  peers = peers_of promise.says.neighbours;
  key = key;
  log = log;
}

-- what is recorded behind the log that was found, which is that of the key
abbrev pub ready_plan : RecordRequest → PromiseFile → Key → List Speaker → List (List Item) → Option LogFile
    → Work Ending
ready_plan q promise key neighbours files found = do
  ready ← want
  fits ← unless (long_message (too_long (records_in_order neighbours files)))
  appended_plan q.log key found (recorder_of promise key)
      (turns_of (events_of (records_in_order neighbours files) q.until)) (skipped neighbours files)

-- what is recorded behind the log that was found
abbrev pub found_plan : RecordRequest → PromiseFile → Key → List Speaker → List (List Item) → Option LogFile
    → Work Ending
found_plan q promise key neighbours files found = do
  key_network ← unless (other_network key.asn promise.says.network)
  network ← unless (log_network found promise.says.network)
  tree ← want
  root ← unless (other_root (key_root key) found)
  ready_plan q promise key neighbours files found
