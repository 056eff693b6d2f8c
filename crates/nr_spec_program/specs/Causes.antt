-- What a run's status and ending say of the words, of the counts of faults and of the files.
use Rattle.std.specs.Prelude.{◌≡◌, ◌≢◌, ◌⊎◌, ℕ, ◌≤◌, ◌-◌, Bool, false, true, if◌then◌else◌, List, [], ◌∷◌, ◌++◌, Option, None, Some, Result, Ok, Err, option_map, take}
use Rattle.nr_spec_history.specs.KeyFiles.{Key, key_file}
use Rattle.nr_spec_log.specs.Authenticator.{Authenticator, auths_file, auths_of}
use Rattle.nr_spec_log.specs.Answer.{AnswerFile}
use Rattle.nr_spec_slices.specs.Reading.{slice_of}
use Rattle.nr_spec_store.specs.LogFile.{LogFile}
use Rattle.nr_spec_plans.specs.Disk.{Contents, Disk, Tape, Fault, Memory, Cuts, Writes, Syncs, more}
use Rattle.nr_spec_plans.specs.Plans.{Action, Done, Ask, Read, Cut, Write, Sync, Halt, Refused, Faulted, Room, Runs, ◌>>=◌}
use Rattle.nr_spec_plans.specs.Laws.{IsAmong, IsRead, Unchanged, fault_in, outcome, reads_after, writes_after}
use Rattle.nr_spec_plans.specs.Steps.{OnlyBy}
use Rattle.nr_spec_outcome.specs.Report.{Report}
use Rattle.nr_spec_saving.specs.Saving.{PartsSaved, evidence_parts}
use Rattle.nr_spec_commands.specs.Words.{named, Request, AuditRequest, CollectRequest, KeygenRequest, Audit, Keygen, Check, Record, Answer, Verify, Collect}
use Rattle.nr_spec_texts.specs.Promises.{PromiseFile}
use Rattle.nr_spec_program.specs.Command as command
use Rattle.nr_spec_program.specs.Command.{Input, PromiseInput, AnswerInput, AuthsInput, KeyInput, LogInput, MrtInput, LogFact, KeySpent, LateStart, LongEvidence, LongLog, NoFile, Limit, Malformed, Prevented, Work, Ending, Refusal, refusal_ending, fault_ending, key_ending, promise_ending, promise_plan, key_plan, load, well_formed, judged, audit_ending, evidence_of_report}
use Rattle.nr_spec_program.specs.Recording.{answered_ending, recorded_ending}
use Rattle.nr_spec_program.specs.Verifying.{verified_ending}
use Rattle.nr_spec_program.specs.Collecting.{collected_ending, frames_plan}
use Rattle.nr_spec_verify.specs.Verified.{verified}
use Rattle.nr_spec_collecting.specs.Collecting.{heads_from}

-- ---- counts

abbrev pub same : ℕ → ℕ
same count = count

-- The counts of read faults, of write faults and of the sink's faults have become this.
pub record Counts (of_reads of_writes of_sink : ℕ → ℕ) (old new : Disk) (before after : Tape) : Type 0 where
  pub reads : new.read_faults ≡ of_reads old.read_faults
  pub writes : new.write_faults ≡ of_writes old.write_faults
  pub sink : after.faults ≡ of_sink before.faults

-- No count rose by one; one at its last value counts as risen.
pub record NoneRose (old new : Disk) (before after : Tape) : Type 0 where
  pub reads : new.read_faults ≢ more 1 old.read_faults
  pub writes : new.write_faults ≢ more 1 old.write_faults
  pub sink : after.faults ≢ more 1 before.faults

-- ---- what ended the work

-- The endings of a request that nothing stopped, by whatever its files held; that these are what was read is the plan's
-- to say. That of an audit tells what an answer and authenticators show by a promise file.
abbrev pub EndOf : Request → Ending → Type 0
EndOf (Audit q) e =
    (promise : PromiseFile) × (answer : AnswerFile) × (auths : List Authenticator) × (report : Report)
    × (judged q.root promise answer q.period auths ≡ Done report) × (e ≡ audit_ending promise report)
EndOf (Keygen q) e = (key : Key) × (e ≡ key_ending key)
EndOf (Check q) e = (promise : PromiseFile) × (e ≡ promise_ending promise)
EndOf (Record q) e = (before after : LogFile) × ((skips : ℕ) × (e ≡ recorded_ending before after skips))
EndOf (Answer q) e = (answer : AnswerFile) × (e ≡ answered_ending answer)
EndOf (Verify q) e =
    (bytes : List ℕ) × (claims : List Bool) × (verified q.root bytes ≡ Ok claims) × (e ≡ verified_ending claims)
EndOf (Collect q) e = (frames : List (List ℕ)) × (e ≡ collected_ending (heads_from q.asn frames))

-- The words ask for a request, whose plan gave an ending of this status.
pub record GaveEnding (request : Option Request) (result : Result Ending (Halt Refusal)) (status : ℕ) : Type 0 where
  pub asked : Request
  pub words : request ≡ Some asked
  pub ending : Ending
  pub gave : result ≡ Ok ending
  pub of : EndOf asked ending
  pub answers : status ≡ ending.status

-- The plan was refused, and the status is that of the refusal's line.
pub record GaveRefusal (result : Result Ending (Halt Refusal)) (status : ℕ) : Type 0 where
  pub refusal : Refusal
  pub gave : result ≡ Err (Refused refusal)
  pub answers : status ≡ (refusal_ending refusal).status

-- Memory ran out in the plan, or for the line of a refusal, or at the sink.
abbrev pub RanOut : Result Ending (Halt Refusal) → Ending → (sink : Result (Unit {0}) Fault) → Type 0
RanOut result e sink =
    (result ≡ Err (Faulted Memory))
    ⊎ (((refusal : Refusal) × (result ≡ Err (Refused refusal)) × (e ≡ fault_ending Memory)) ⊎ (sink ≡ Err Memory))

-- Each status has its cause, by what the plan gave, its ending and what the sink answered. The words alone decide on
-- usage. With 4 one count rose, by one. With 5 that of write faults did, or that of the sink, and beside it the count
-- of the fault whose line the sink didn't take, if any. With every other status none rose, but where the sink found no
-- memory for the line of a fault.
pub record Caused (request : Option Request) (old new : Disk) (before after : Tape)
    (result : Result Ending (Halt Refusal))
    (e : Ending) (sink : Result (Unit {0}) Fault) (status : ℕ) : Type 0 where
  pub usage : status ≡ 2 → request ≡ None
  pub is_usage : request ≡ None → (status ≡ 2) ⊎ ((status ≡ 5) ⊎ (status ≡ 6))
  pub known : status ≤ 7
  pub own : status ≢ 5 → status ≢ 6 → status ≡ e.status
  pub ending : (status ≡ 0) ⊎ (status ≡ 1) → GaveEnding request result status
  pub refusal : (status ≡ 3) ⊎ (status ≡ 7) → GaveRefusal result status
  pub memory : status ≡ 6 → RanOut result e sink
  pub read_fault : status ≡ 4 → Counts (more 1) same same old new before after
  pub write_fault : status ≡ 5
      → Counts same (more 1) same old new before after
      ⊎ Counts (reads_after (fault_in result)) (writes_after (fault_in result)) (more 1) old new before after
  pub no_fault : status ≢ 4 → status ≢ 5 → sink ≢ Err Memory → Counts same same same old new before after
  pub no_sink : status ≢ 5 → after.faults ≡ before.faults
  pub no_memory : sink ≡ Err Memory → status ≡ 6

-- A command that writes nothing has only the sink for status 5.
pub record OnlyTheSinkFails (old new : Disk) (before after : Tape) (status : ℕ) : Type 0 where
  pub writes : new.write_faults ≡ old.write_faults
  pub sink : status ≡ 5 → after.faults ≡ more 1 before.faults

-- ---- names

-- the files that a request may ask for and read
abbrev pub read_names : Request → List (List ℕ)
read_names (Audit q) = q.promise ∷ q.answer ∷ q.auths ∷ []
read_names (Keygen q) = q.seed ∷ []
read_names (Check q) = q.promise ∷ []
read_names (Record q) = q.promise ∷ q.key ∷ (q.files ++ q.log ∷ [])
read_names (Answer q) = q.key ∷ q.log ∷ []
read_names (Verify q) = q.evidence ∷ []
read_names (Collect q) = q.frames ∷ []

-- the log of a request, which is synced before it is read
abbrev pub log_names : Request → List (List ℕ)
log_names (Audit q) = []
log_names (Keygen q) = []
log_names (Check q) = []
log_names (Record q) = q.log ∷ []
log_names (Answer q) = q.log ∷ []
log_names (Verify q) = []
log_names (Collect q) = []

-- the files that a request may write
abbrev pub written_names : Request → List (List ℕ)
written_names (Audit q) = named q.evidence
written_names (Keygen q) = q.key ∷ []
written_names (Check q) = []
written_names (Record q) = q.log ∷ []
written_names (Answer q) = q.out ∷ []
written_names (Verify q) = []
written_names (Collect q) = q.out ∷ []

-- the same of the words; those that aren't taken name no file
abbrev pub read_in : Option Request → List (List ℕ)
read_in None = []
read_in (Some request) = read_names request

abbrev pub log_in : Option Request → List (List ℕ)
log_in None = []
log_in (Some request) = log_names request

abbrev pub written_in : Option Request → List (List ℕ)
written_in None = []
written_in (Some request) = written_names request

-- The step asks for, or reads, a file of the first names, syncs one of the second or third, or writes one of the third.
abbrev pub Touches : (read synced written : List (List ℕ)) → Action → Type 0
Touches read synced written (Ask name) = IsAmong name read
Touches read synced written (Read name size) = IsAmong name read
Touches read synced written (Cut name len) = IsAmong name written
Touches read synced written (Write name at bytes) = IsAmong name written
Touches read synced written (Sync name) = IsAmong name (synced ++ written)

-- ---- refusals

-- the input files of a request, in the order in which they are asked for, up to this one and without it
abbrev pub names_before : Request → Input → List (List ℕ)
names_before (Audit q) PromiseInput = []
names_before (Audit q) AnswerInput = q.promise ∷ []
names_before (Audit q) AuthsInput = q.promise ∷ q.answer ∷ []
names_before (Audit q) input = []
names_before (Keygen q) input = []
names_before (Check q) input = []
names_before (Record q) PromiseInput = []
names_before (Record q) KeyInput = q.promise ∷ []
names_before (Record q) (MrtInput number) = q.promise ∷ q.key ∷ take (number - 1) q.files
names_before (Record q) LogInput = q.promise ∷ q.key ∷ q.files
names_before (Record q) input = []
names_before (Answer q) LogInput = q.key ∷ []
names_before (Answer q) input = []
names_before (Verify q) input = []
names_before (Collect q) input = []

-- the same with this one
abbrev pub names_until : Request → Input → List (List ℕ)
names_until (Audit q) PromiseInput = q.promise ∷ []
names_until (Audit q) AnswerInput = q.promise ∷ q.answer ∷ []
names_until (Audit q) AuthsInput = q.promise ∷ q.answer ∷ q.auths ∷ []
names_until (Audit q) input = []
names_until (Keygen q) input = q.seed ∷ []
names_until (Check q) input = q.promise ∷ []
names_until (Record q) PromiseInput = q.promise ∷ []
names_until (Record q) KeyInput = q.promise ∷ q.key ∷ []
names_until (Record q) (MrtInput number) = q.promise ∷ q.key ∷ take number q.files
names_until (Record q) LogInput = q.promise ∷ q.key ∷ (q.files ++ q.log ∷ [])
names_until (Record q) input = []
names_until (Answer q) LogInput = q.key ∷ q.log ∷ []
names_until (Answer q) input = q.key ∷ []
names_until (Verify q) input = q.evidence ∷ []
names_until (Collect q) input = q.frames ∷ []

-- The files that were asked for where this refuses: none after the refused one.
abbrev pub names_asked : Request → Refusal → List (List ℕ)
names_asked request (NoFile input) = names_until request input
names_asked request (Limit input found) = names_until request input
names_asked request (Malformed input place) = names_until request input
names_asked request (command.Refused fact) = read_names request
names_asked request (LateStart late) = read_names request
names_asked request (Prevented fact) = read_names request
names_asked request (LongEvidence found) = read_names request

-- The files that were read: not one that is absent or past its limit.
abbrev pub names_read : Request → Refusal → List (List ℕ)
names_read request (NoFile input) = names_before request input
names_read request (Limit input found) = names_before request input
names_read request (Malformed input place) = names_until request input
names_read request (command.Refused fact) = read_names request
names_read request (LateStart late) = read_names request
names_read request (Prevented fact) = read_names request
names_read request (LongEvidence found) = read_names request

-- The log that was synced: none that is absent or past its limit, and none where a file before it is refused.
abbrev pub names_synced : Request → Refusal → List (List ℕ)
names_synced request (Malformed LogInput place) = log_names request
names_synced request (Prevented fact) = log_names request
names_synced request other = []

-- the fact is one that a turn meets, when the log is written
abbrev pub is_met_by_a_turn : LogFact → Bool
is_met_by_a_turn (KeySpent spent) = true
is_met_by_a_turn (LongLog found) = true
is_met_by_a_turn other = false

abbrev pub is_met_late : Refusal → Bool
is_met_late (Prevented fact) = is_met_by_a_turn fact
is_met_late other = false

-- The files that were written: the log, where a turn meets what refuses.
abbrev pub names_written : Request → Refusal → List (List ℕ)
names_written request refusal = if is_met_late refusal then written_names request else []

-- The step asks for a file of the first names, reads one of the second, syncs one of the third or fourth, or writes one
-- of the fourth.
abbrev pub Permitted : (asked read synced written : List (List ℕ)) → Action → Type 0
Permitted asked read synced written (Ask name) = IsAmong name asked
Permitted asked read synced written (Read name size) = IsAmong name read
Permitted asked read synced written (Cut name len) = IsAmong name written
Permitted asked read synced written (Write name at bytes) = IsAmong name written
Permitted asked read synced written (Sync name) = IsAmong name (synced ++ written)

-- what may have been done where this refuses
abbrev pub Permits : Request → Refusal → Action → Type 0
Permits request refusal =
    Permitted (names_asked request refusal) (names_read request refusal) (names_synced request refusal)
    (names_written request refusal)

-- ---- endings

-- What is answered has P, or would have, had the sink taken the ending.
abbrev pub Answered : (P : ℕ → Type 0) → Ending → (status : ℕ) → Type 0
Answered P e status = P status ⊎ P e.status

-- the statuses with which nothing was written
abbrev pub WroteNothing : ℕ → Type 0
WroteNothing status = (status ≢ 0) × (status ≢ 1) × (status ≢ 5) × (status ≢ 6)

-- the ending of a value, or of a refusal
abbrev pub ended : Result Ending Refusal → Ending
ended (Ok ending) = ending
ended (Err refusal) = refusal_ending refusal

-- The ending is what the plan gives by what the files hold, or that of want of memory, or that of the fault that
-- stopped the plan.
abbrev pub EndsBy : Contents → Work Ending → Result Ending (Halt Refusal) → Ending → Type 0
EndsBy held plan result e =
    (e ≡ ended (outcome held plan))
    ⊎ ((e ≡ fault_ending Memory) ⊎ ((fault : Fault) × (fault_in result ≡ Err fault) × (e ≡ fault_ending fault)))

-- The ending is what the plan gives by what the files hold, or that of want of memory; the status is its own, or that
-- of want of memory.
pub record EndsAs (held : Contents) (plan : Work Ending) (e : Ending) (status : ℕ) : Type 0 where
  pub ending : (e ≡ ended (outcome held plan)) ⊎ (e ≡ fault_ending Memory)
  pub answers : (status ≡ e.status) ⊎ (status ≡ (fault_ending Memory).status)

-- ---- files

-- No file was cut, written or synced, and no such call failed: each step asked for a size or read.
pub record LeavesFiles (old new : Disk) : Type 0 where
  pub told : Unchanged old.told new.told
  pub writes : new.write_faults ≡ old.write_faults
  pub only : OnlyBy IsRead old new

-- What a plan gave isn't a refusal that a turn meets.
abbrev pub NotMetLate : Result Ending (Halt Refusal) → Type 0
NotMetLate result = (refusal : Refusal) → result ≡ Err (Refused refusal) → is_met_late refusal ≡ false

abbrev pub IsReadOrSync : (synced : List (List ℕ)) → Action → Type 0
IsReadOrSync synced (Ask name) = Unit {0}
IsReadOrSync synced (Read name size) = Unit {0}
IsReadOrSync synced (Cut name len) = ⊥
IsReadOrSync synced (Write name at bytes) = ⊥
IsReadOrSync synced (Sync name) = IsAmong name synced

-- No file holds anything else than before: each step asked for a size, read, or synced one of these.
pub record LeavesContents (synced : List (List ℕ)) (old new : Disk) : Type 0 where
  pub holds : option_map (λ t. t.holds) new.told ≡ option_map (λ t. t.holds) old.told
  pub only : OnlyBy (IsReadOrSync synced) old new

-- A key was got from its seed file, and after that the key file was cut to nothing, written and synced, and each of
-- these went well.
pub record SavesKey (q : KeygenRequest) (old new : Disk) : Type 0 where
  pub key : Key
  pub read : Disk
  pub cut : Disk
  pub wrote : Disk
  pub gets : Runs (key_plan q) old read (Ok key)
  pub cuts : Cuts q.key 0 read cut (Ok tt)
  pub writes : Writes q.key 0 (key_file key) cut wrote (Ok tt)
  pub syncs : Syncs q.key wrote new (Ok tt)

-- The bytes of frames were got from their file, and after that the authenticator file was cut to nothing, written and
-- synced, and each of these went well: it holds the authenticators of the frames from the AS. What is then offered to the
-- sink says how many they are.
pub record SavesHeads (q : CollectRequest) (e : Ending) (old new : Disk) : Type 0 where
  pub frames : List (List ℕ)
  pub read : Disk
  pub cut : Disk
  pub wrote : Disk
  pub gets : Runs (frames_plan q) old read (Ok frames)
  pub cuts : Cuts q.out 0 read cut (Ok tt)
  pub writes : Writes q.out 0 (auths_file (heads_from q.asn frames)) cut wrote (Ok tt)
  pub syncs : Syncs q.out wrote new (Ok tt)
  pub offers : e ≡ collected_ending (heads_from q.asn frames)

-- what an audit has of its files before it writes: what the promise file says, the bytes of the answer, and the report
-- on that answer
pub record Reported : Type 0 where
  pub promise : PromiseFile
  pub answer : List ℕ
  pub report : Report

-- the first part of `audit`, before anything is written
unfoldable pub reported_plan : AuditRequest → Work Reported
reported_plan q = do
  promise ← promise_plan q.promise
  answer_bytes ← load AnswerInput q.answer
  answer ← Room (well_formed AnswerInput (slice_of answer_bytes))
  auths_bytes ← load AuthsInput q.auths
  auths ← well_formed AuthsInput (auths_of auths_bytes)
  report ← Room (judged q.root promise answer q.period auths)
  Done (record { promise = promise; answer = answer_bytes; report = report })

-- A report was got from the three files, and after that the evidence file was cut to nothing, the pieces of the
-- report's evidence were written one behind another, and the file was synced, and each of these went well. What is then
-- offered to the sink is the text of the report.
pub record SavesEvidence (q : AuditRequest) (name : List ℕ) (e : Ending) (old new : Disk) : Type 0 where
  pub reported : Reported
  pub read : Disk
  pub gets : Runs (reported_plan q) old read (Ok reported)
  pub saves : PartsSaved name
      (evidence_parts (evidence_of_report reported.answer reported.promise q.period reported.report)) read new
  pub offers : e ≡ audit_ending reported.promise reported.report
