-- What is left of a log to which `record` was to append.
use Rattle.std.specs.Prelude.{◌≡◌, ◌⊎◌, ◌<◌, ◌^◌, ℕ, List, [], None, Ok}
use Rattle.nr_spec_bgp.specs.Records.{Item}
use Rattle.nr_spec_plans.specs.Disk.{Contents, Disk}
use Rattle.nr_spec_plans.specs.Laws.{outcome}
use Rattle.nr_spec_history.specs.KeyFiles.{Key, key_root}
use Rattle.nr_spec_store.specs.LogFile.{LogFile, born}
use Rattle.nr_spec_store.specs.StorePlans.{loading}
use Rattle.nr_spec_store.specs.StoreCrashes.{Keeps, LoadsEntries}
use Rattle.nr_spec_commands.specs.Words.{RecordRequest}
use Rattle.nr_spec_program.specs.Command.{Ending, promise_plan}
use Rattle.nr_spec_texts.specs.Promises.{PromiseFile}
use Rattle.nr_spec_program.specs.Recording.{key_file_plan, mrt_plan, recorded_ending, recorder_of, speakers_of, turns_for}
use Rattle.nr_spec_recording.specs.Events.{skipped}
use Rattle.nr_spec_steps.specs.Turns.{log_after}
use Rattle.nr_laws_recording.specs.FirstTurns.{LoadsFirstTurns, TurnsFit}

-- The promise, the key and the records of the MRT files are what these contents give for a request.
pub record AreInputs (held : Contents) (q : RecordRequest) (promise : PromiseFile) (key : Key)
    (files : List (List Item)) : Type 0 where
  pub promise_is : outcome held (promise_plan q.promise) ≡ Ok promise
  pub key_is : outcome held (key_file_plan q.key) ≡ Ok key
  pub files_are : outcome held (mrt_plan 1 q.files) ≡ Ok files

-- What the turns of a request append fits behind a log.
abbrev pub RecordingFits : Contents → RecordRequest → LogFile → Type 0
RecordingFits held q log =
    (promise : PromiseFile) (key : Key) (files : List (List Item)) → AreInputs held q promise key files
    → TurnsFit (recorder_of promise key) log.entries (turns_for promise files q.until)

-- The file loads as the log with all that some first turns of a request append.
pub record LoadsRecorded (file : List ℕ) (held : Contents) (q : RecordRequest) (log : LogFile) : Type 0 where
  pub promise : PromiseFile
  pub key : Key
  pub files : List (List Item)
  pub inputs : AreInputs held q promise key files
  pub loads : LoadsFirstTurns file (recorder_of promise key) log (turns_for promise files q.until)

-- It loads as the log before, or as that with all that some first turns append.
abbrev pub IsBeforeOrRecorded : List ℕ → Contents → RecordRequest → LogFile → Type 0
IsBeforeOrRecorded file held q log = LoadsEntries file log log.entries ⊎ LoadsRecorded file held q log

-- ---- where there is no log yet

-- What the turns of a request append fits in a log without entries, and its AS has four bytes.
abbrev pub BirthFits : Contents → RecordRequest → Type 0
BirthFits held q =
    (promise : PromiseFile) (key : Key) (files : List (List Item)) → AreInputs held q promise key files
    → (key.asn < 2 ^ 32) × TurnsFit (recorder_of promise key) [] (turns_for promise files q.until)

-- The file loads as a log that was born, with all that some first turns of a request append.
pub record LoadsBornRecorded (file : List ℕ) (held : Contents) (q : RecordRequest) : Type 0 where
  pub promise : PromiseFile
  pub key : Key
  pub files : List (List Item)
  pub inputs : AreInputs held q promise key files
  pub loads :
      LoadsFirstTurns file (recorder_of promise key) (born key.asn (key_root key)) (turns_for promise files q.until)

-- It loads as no log, or as one with all that some first turns append.
abbrev pub IsUnbornOrRecorded : List ℕ → Contents → RecordRequest → Type 0
IsUnbornOrRecorded file held q = (loading file ≡ Ok None) ⊎ LoadsBornRecorded file held q

-- ---- a run that went well

-- The disk keeps the log with all that the turns of a request append, and the ending tells which entries these are.
pub record HasRecorded (q : RecordRequest) (promise : PromiseFile) (key : Key) (files : List (List Item))
    (log : LogFile) (new : Disk) (ending : Ending) : Type 0 where
  pub longer : LogFile
  pub asn : longer.asn ≡ log.asn
  pub root : longer.root ≡ log.root
  pub entries : longer.entries ≡ log_after (recorder_of promise key) log.entries (turns_for promise files q.until)
  pub keeps : Keeps new q.log longer
  pub ending_is : ending ≡ recorded_ending log longer (skipped (speakers_of promise) files)

-- the same by what these contents give for the request
pub record Recorded (held : Contents) (q : RecordRequest) (log : LogFile) (new : Disk) (ending : Ending) : Type 0 where
  pub promise : PromiseFile
  pub key : Key
  pub files : List (List Item)
  pub inputs : AreInputs held q promise key files
  pub has : HasRecorded q promise key files log new ending

-- the same of a log that was born
pub record BornRecorded (held : Contents) (q : RecordRequest) (new : Disk) (ending : Ending) : Type 0 where
  pub promise : PromiseFile
  pub key : Key
  pub files : List (List Item)
  pub inputs : AreInputs held q promise key files
  pub has : HasRecorded q promise key files (born key.asn (key_root key)) new ending
