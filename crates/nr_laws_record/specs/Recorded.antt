-- What `record` goes by, and what it makes of the log.
use Rattle.std.specs.Prelude.{◌≡◌, ◌⊎◌, ◌++◌, ◌-◌, ◌<◌, ℕ, [], ◌∷◌, Err, List, None, Ok, Option, Some, length, map, unwrap_or}
use Rattle.nr_spec_bgp.specs.Records.{Item}
use Rattle.nr_spec_wire.specs.Reading.{IsBytes}
use Rattle.nr_spec_log.specs.Chain.{LogEntry}
use Rattle.nr_spec_history.specs.KeyFiles.{Key, key_root}
use Rattle.nr_spec_plans.specs.Disk.{Contents, Disk, Told, bytes_of}
use Rattle.nr_spec_plans.specs.Plans.{Done, want, ◌>>=◌}
use Rattle.nr_spec_crash.specs.Crashes.{IsWithin, MayLeave}
use Rattle.nr_spec_store.specs.LogFile.{LogFile, birth_size, born, most_log, with_batch}
use Rattle.nr_spec_store.specs.StoreCrashes.{AwaitsBirth, Keeps}
use Rattle.nr_spec_store.specs.StorePlans.{loading}
use Rattle.nr_spec_steps.specs.Events.{Event}
use Rattle.nr_spec_steps.specs.Steps.{Recorder}
use Rattle.nr_spec_steps.specs.Turns.{turn}
use Rattle.nr_spec_recording.specs.Records.{records_of}
use Rattle.nr_spec_recording.specs.Events.{records_in_order, skipped, too_long}
use Rattle.nr_spec_commands.specs.Words.{RecordRequest}
use Rattle.nr_spec_texts.specs.Promises.{PromiseFile, promise_of}
use Rattle.nr_spec_program.specs.Keys.{key_of}
use Rattle.nr_spec_program.specs.Command.{Ending, KeySpent, LogFact, LongLog, Work, promise_plan}
use Rattle.nr_spec_program.specs.Recording.{key_file_plan, log_network, log_plan, long_message, mrt_plan, other_network, other_root, recorded_ending, recorder_of, speakers_of, turns_for, unless}
use Rattle.nr_laws_recording.specs.FirstTurns.{LoadsFirstTurns, TurnsFit}

-- ---- before the first turn

-- what is recorded by: a promise file, a key, the records of the MRT files, and the log that was found
pub record Prepared : Type 0 where
  pub promise : PromiseFile
  pub key : Key
  pub files : List (List Item)
  pub found : Option LogFile

-- the first part of `record`, before anything is written
unfoldable pub prepare_plan : RecordRequest → Work Prepared
prepare_plan q = do
  promise ← promise_plan q.promise
  key ← key_file_plan q.key
  room ← want
  files ← mrt_plan 1 q.files
  found ← log_plan q.log
  key_network ← unless (other_network key.asn promise.says.network)
  network ← unless (log_network found promise.says.network)
  tree ← want
  root ← unless (other_root (key_root key) found)
  ready ← want
  fits ← unless (long_message (too_long (records_in_order (speakers_of promise) files)))
  Done (record { promise = promise; key = key; files = files; found = found })

-- It is what the files hold, and nothing of it refuses the recording.
pub record IsPrepared (held : Contents) (q : RecordRequest) (p : Prepared) : Type 0 where
  pub promise : promise_of (bytes_of (held q.promise)) ≡ Ok p.promise
  pub key : key_of (bytes_of (held q.key)) ≡ Ok p.key
  pub files : map (λ name. records_of (bytes_of (held name))) q.files ≡ map Ok p.files
  pub found : loading (bytes_of (held q.log)) ≡ Ok p.found
  pub own : other_network p.key.asn p.promise.says.network ≡ None
  pub network : log_network p.found p.promise.says.network ≡ None
  pub root : other_root (key_root p.key) p.found ≡ None
  pub roomy : long_message (too_long (records_in_order (speakers_of p.promise) p.files)) ≡ None

-- the log behind which is recorded: the one that was found, or where there was none one that is born
abbrev pub log_before : Prepared → LogFile
log_before p = unwrap_or p.found (born p.key.asn (key_root p.key))

abbrev pub recorder_in : Prepared → Recorder
recorder_in p = recorder_of p.promise p.key

abbrev pub turns_in : RecordRequest → Prepared → List (List Event)
turns_in q p = turns_for p.promise p.files q.until

-- What each turn of the recording appends fits behind the log before it.
abbrev pub RecordFits : RecordRequest → Prepared → Type 0
RecordFits q p = TurnsFit (recorder_in p) (log_before p).entries (turns_in q p)

-- Files tell what they hold, the key's and the log's hold bytes, and where the log is absent no crash would leave the
-- bytes of a birth.
pub record MayRecord (q : RecordRequest) (old : Disk) (t : Told) : Type 0 where
  pub told : old.told ≡ Some t
  pub key : IsBytes (bytes_of (t.holds q.key))
  pub log : IsBytes (bytes_of (t.holds q.log))
  pub absent : t.holds q.log ≡ None → IsWithin q.log (birth_size - 1) old

-- Every crash leaves this log under a name, or none, and then a birth is awaited.
abbrev pub Stands : Disk → (name : List ℕ) → Option LogFile → Type 0
Stands d name None = AwaitsBirth d name
Stands d name (Some log) = Keeps d name log

-- ---- turns

-- the log with what a turn appends: one batch more, and none where that is nothing
abbrev pub with_entries : LogFile → List LogEntry → LogFile
with_entries log [] = log
with_entries log (first ∷ others) = with_batch log (first ∷ others)

-- Each of these turns was appended, one after another, and makes this log of that.
abbrev pub Appends : Recorder → LogFile → List (List Event) → LogFile → Type 0
Appends r log [] longer = longer ≡ log
Appends r log (events ∷ others) longer =
    (batch : List LogEntry) × (turn r log.entries events ≡ Ok batch) × Appends r (with_entries log batch) others longer

-- what refuses a turn behind a log: a COMMIT for which the key has no leaf, or a file that would be too long
abbrev pub IsRefusedFor : Recorder → LogFile → List Event → LogFact → Type 0
IsRefusedFor r log events (KeySpent spent) = turn r log.entries events ≡ Err spent
IsRefusedFor r log events (LongLog size) =
    (batch : List LogEntry) × (turn r log.entries events ≡ Ok batch) × (size ≡ length (with_batch log batch).front)
    × (most_log < size)
IsRefusedFor r log events other = ⊥

-- The turns before a refused one were appended, and make this log of that.
pub record StopsFor (r : Recorder) (log : LogFile) (turns : List (List Event)) (fact : LogFact) (longer : LogFile)
    : Type 0 where
  pub before : List (List Event)
  pub refused : List Event
  pub others : List (List Event)
  pub all : turns ≡ before ++ refused ∷ others
  pub appends : Appends r log before longer
  pub because : IsRefusedFor r longer refused fact

-- ---- what a run of `record` leaves

-- All turns were appended, the log is on the disk, and the ending tells which entries are new.
pub record Records (q : RecordRequest) (p : Prepared) (new : Disk) (ending : Ending) : Type 0 where
  pub longer : LogFile
  pub appends : Appends (recorder_in p) (log_before p) (turns_in q p) longer
  pub keeps : Keeps new q.log longer
  pub says : ending ≡ recorded_ending (log_before p) longer (skipped (speakers_of p.promise) p.files)

-- The turns before the refused one were appended, and the log is on the disk.
pub record RecordsSome (q : RecordRequest) (p : Prepared) (new : Disk) (fact : LogFact) : Type 0 where
  pub longer : LogFile
  pub stops : StopsFor (recorder_in p) (log_before p) (turns_in q p) fact longer
  pub keeps : Keeps new q.log longer

-- The file loads as the log with all that some first turns append, or as none where none was found.
abbrev pub IsLeftOf : RecordRequest → Prepared → List ℕ → Type 0
IsLeftOf q p file =
    LoadsFirstTurns file (recorder_in p) (log_before p) (turns_in q p)
    ⊎ ((p.found ≡ None) × (loading file ≡ Ok None))

-- What a read gives under the log's name, and what a crash leaves there, is left so.
pub record LeavesTurns (q : RecordRequest) (p : Prepared) (new : Disk) : Type 0 where
  pub read : (u : Told) → new.told ≡ Some u → IsLeftOf q p (bytes_of (u.holds q.log))
  pub crash : (image : List ℕ) → MayLeave new q.log image → IsLeftOf q p image

-- What is left loads as the log before the run; or all that is recorded by was read, and it is left as by some first
-- turns.
abbrev pub IsLeftAnywhere : RecordRequest → Contents → Option LogFile → List ℕ → Type 0
IsLeftAnywhere q held found image =
    (loading image ≡ Ok found) ⊎ ((p : Prepared) × IsPrepared held q p × (RecordFits q p → IsLeftOf q p image))
