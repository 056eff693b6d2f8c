-- What `record` and `answer` do with files.
use Rattle.std.specs.Prelude.{ℕ, ◌+◌, ◌++◌, ◌==◌, ◌^◌, if◌then◌else◌, List, [], ◌∷◌, Option, None, Some, Result, Ok, Err, codes, length, map, nat_lt}
use Rattle.std.specs.Fmt.{decimal}
use Rattle.std.specs.Str.{bytes_eq}
use Rattle.nr_spec_bgp.specs.Records.{Item}
use Rattle.nr_spec_log.specs.Chain.{LogEntry}
use Rattle.nr_spec_log.specs.Answer.{AnswerFile, answer_file}
use Rattle.nr_spec_history.specs.KeyFiles.{Key, key_root}
use Rattle.nr_spec_history.specs.Lines.{line}
use Rattle.nr_spec_typing.specs.declared.text.Neighbour.{Neighbour}
use Rattle.nr_spec_plans.specs.Plans.{Ask, Done, Plan, Refuse, act, refusing, save, want, ◌>>=◌}
use Rattle.nr_spec_store.specs.LogFile.{LogFile}
use Rattle.nr_spec_store.specs.StorePlans as store
use Rattle.nr_spec_store.specs.StorePlans.{append_plan, birth_plan, load_plan}
use Rattle.nr_spec_steps.specs.Events.{Event}
use Rattle.nr_spec_steps.specs.Steps.{Recorder, Spent}
use Rattle.nr_spec_steps.specs.Turns.{turn}
use Rattle.nr_spec_steps.specs.Heads.{whole_answer}
use Rattle.nr_spec_recording.specs.Records.{Speaker, records_of}
use Rattle.nr_spec_recording.specs.Events.{events_of, records_in_order, skipped, too_long, turns_of}
use Rattle.nr_spec_commands.specs.Words.{AnswerRequest, RecordRequest}
use Rattle.nr_spec_texts.specs.Promises.{PromiseFile, numbers_in}
use Rattle.nr_spec_program.specs.Keys.{key_of}
use Rattle.nr_spec_program.specs.Command.{Ending, KeyInput, Limit, LogFact, LogInput, LongAnswer, LongLog, LongMessage, KeySpent, Malformed, MrtInput, NoFile, OtherNetwork, OtherRoot, AnswerInput, Prevented, Refusal, Unsealed, Work, input_limit, load, promise_plan, well_formed}

-- ---- facts

-- a fact that refuses, where there is one
abbrev pub unless : Option LogFact → Work (Unit {0})
unless None = Done tt
unless (Some fact) = Refuse (Prevented fact)

abbrev pub other_network : (found wanted : ℕ) → Option LogFact
other_network found wanted = if found == wanted then None else Some (OtherNetwork found wanted)

-- a log that isn't born is of no AS
abbrev pub log_network : Option LogFile → (wanted : ℕ) → Option LogFact
log_network None wanted = None
log_network (Some log) wanted = other_network log.asn wanted

-- the root of a key, and that of a log, where it is born
abbrev pub other_root : (found : List ℕ) → Option LogFile → Option LogFact
other_root found None = None
other_root found (Some log) = if bytes_eq found log.root then None else Some (OtherRoot found log.root)

abbrev pub long_message : Option ℕ → Option LogFact
long_message None = None
long_message (Some found) = Some (LongMessage found)

-- ---- the files of a recorder

unfoldable pub key_file_plan : (name : List ℕ) → Work Key
key_file_plan name = do
  bytes ← load KeyInput name
  well_formed KeyInput (key_of bytes)

-- the records of MRT files, one file after another
unfoldable pub mrt_plan : (number : ℕ) → List (List ℕ) → Work (List (List Item))
mrt_plan number [] = Done []
mrt_plan number (name ∷ others) = do
  bytes ← load (MrtInput number) name
  records ← well_formed (MrtInput number) (records_of bytes)
  room ← want
  rest ← mrt_plan (number + 1) others
  Done (records ∷ rest)

-- why a log isn't read, in the words of this program
abbrev pub unread_log : store.Refusal → Refusal
unread_log (store.Limit size) = Limit LogInput size
unread_log (store.At place) = Malformed LogInput place

-- why a log isn't written; nothing is read then
abbrev pub unwritten_log : store.Refusal → Refusal
unwritten_log (store.Limit size) = Prevented (LongLog size)
unwritten_log (store.At place) = Malformed LogInput place

-- The log that a file holds, none where it isn't born. It is synced before it is read.
abbrev pub log_plan : (name : List ℕ) → Work (Option LogFile)
log_plan name = refusing unread_log (load_plan name)

-- the log of a recorder: where there is none it is born
unfoldable pub born_plan : (name : List ℕ) → Key → Option LogFile → Work LogFile
born_plan name key None = refusing unwritten_log (birth_plan name key.asn (key_root key))
born_plan name key (Some log) = Done log

-- ---- turns

-- what a turn appends, or that the key is spent
abbrev pub turned : Result (List LogEntry) Spent → Work (List LogEntry)
turned (Ok batch) = Done batch
turned (Err spent) = Refuse (Prevented (KeySpent spent))

-- A turn that appends nothing writes no batch.
unfoldable pub batch_plan : (name : List ℕ) → LogFile → List LogEntry → Work LogFile
batch_plan name log [] = Done log
batch_plan name log (first ∷ others) = refusing unwritten_log (append_plan name log (first ∷ others))

-- One turn after another: the batch of each is on the disk before the next one comes.
unfoldable pub turns_plan : (name : List ℕ) → Recorder → LogFile → List (List Event) → Work LogFile
turns_plan name r log [] = Done log
turns_plan name r log (events ∷ others) = do
  room ← want
  batch ← turned (turn r log.entries events)
  longer ← batch_plan name log batch
  turns_plan name r longer others

-- ---- `record`

-- a neighbour as records name it
abbrev pub speaker_of : Neighbour → Speaker
speaker_of n = record { asn = n.asn; addr = n.addr }

abbrev pub speakers_of : PromiseFile → List Speaker
speakers_of promise = map speaker_of promise.says.neighbours

-- the recorder of a promise file and a key, to which no frames come
abbrev pub recorder_of : PromiseFile → Key → Recorder
recorder_of promise key = record {
  own = numbers_in promise;
  leaves = 2 ^ key.height;
  acknowledged = λ log bytes. None;
}

-- the turns of a recording
unfoldable pub turns_for : PromiseFile → List (List Item) → Option ℕ → List (List Event)
turns_for promise files until = turns_of (events_of (records_in_order (speakers_of promise) files) until)

-- which entries were appended to a log, and how many records weren't kept
unfoldable pub recorded_ending : (before after : LogFile) (skips : ℕ) → Ending
recorded_ending before after skips = record {
  status = 0;
  text =
      line (codes "entries" ∷ decimal (length before.entries + 1) ∷ decimal (length after.entries) ∷ [])
      ++ line (codes "skipped" ∷ decimal skips ∷ []);
}

-- The log is read last. It is born, where there is none, after all that refuses before a turn, and each turn's batch is
-- on the disk before the next turn comes.
unfoldable pub record_plan : RecordRequest → Work Ending
record_plan q = do
  promise ← promise_plan q.promise
  key ← key_file_plan q.key
  room ← want
  files ← mrt_plan 1 q.files
  found ← log_plan q.log
  key_network ← unless (other_network key.asn promise.says.network)
  network ← unless (log_network found promise.says.network)
  tree ← want
  root ← unless (other_root (key_root key) found)
  ready ← want
  fits ← unless (long_message (too_long (records_in_order (speakers_of promise) files)))
  log ← born_plan q.log key found
  longer ← turns_plan q.log (recorder_of promise key) log (turns_for promise files q.until)
  told ← want
  Done (recorded_ending log longer (skipped (speakers_of promise) files))

-- ---- `answer`

-- the file of a log is there
abbrev pub present : Option ℕ → Work (Unit {0})
present None = Refuse (NoFile LogInput)
present (Some size) = Done tt

-- a log that isn't born has no entries
abbrev pub entries_in : Option LogFile → List LogEntry
entries_in None = []
entries_in (Some log) = log.entries

-- an answer that there is
abbrev pub sealed_answer : Option AnswerFile → Work AnswerFile
sealed_answer None = Refuse (Prevented Unsealed)
sealed_answer (Some answer) = Done answer

-- the bytes of an answer that isn't too long
unfoldable pub answer_bytes : AnswerFile → Work (List ℕ)
answer_bytes answer =
    if nat_lt (input_limit AnswerInput) (length (answer_file answer))
    then Refuse (Prevented (LongAnswer (length (answer_file answer)))) else Done (answer_file answer)

-- the first and the last entry of an answer
unfoldable pub answered_ending : AnswerFile → Ending
answered_ending answer = record {
  status = 0;
  text = line (codes "answer" ∷ decimal answer.first ∷ decimal answer.head.seq ∷ []);
}

-- The answer file is written after all that is wanted of memory.
unfoldable pub answer_plan : AnswerRequest → Work Ending
answer_plan q = do
  key ← key_file_plan q.key
  size ← act (Ask q.log)
  there ← present size
  found ← log_plan q.log
  network ← unless (log_network found key.asn)
  tree ← want
  root ← unless (other_root (key_root key) found)
  ready ← want
  answer ← sealed_answer (whole_answer key (entries_in found))
  bytes ← answer_bytes answer
  room ← want
  saved ← save q.out bytes
  Done (answered_ending answer)
