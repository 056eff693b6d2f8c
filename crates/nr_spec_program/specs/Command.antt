-- What the program does with files: its inputs, refusals and endings, and the plans of `check`, `audit` and `keygen`.
use Rattle.std.specs.Prelude.{ℕ, nat_le, if◌then◌else◌, List, [], ◌∷◌, ◌++◌, Option, None, Some, Result, Ok, Err, codes}
use Rattle.std.specs.Fmt.{decimal}
use Rattle.hex.specs.Hex.{encode_lower}
use Rattle.nr_spec_log.specs.Authenticator.{Authenticator, auths_of}
use Rattle.nr_spec_log.specs.Answer.{AnswerFile}
use Rattle.nr_spec_history.specs.Conflicts.{Period}
use Rattle.nr_spec_history.specs.KeyFiles.{Key, seed_of, key_file, key_root}
use Rattle.nr_rule_syntax.specs.Printing.{file_text}
use Rattle.nr_spec_history.specs.Lines.{line}
use Rattle.nr_spec_steps.specs.Steps.{Spent}
use Rattle.nr_spec_steps.specs.Telling.{most_raw}
use Rattle.nr_spec_store.specs.LogFile.{most_log}
use Rattle.nr_spec_report.specs.Claims.{Claim}
use Rattle.nr_spec_evidence.specs.Evidence.{EvidenceFile, most_evidence}
use Rattle.nr_spec_frames.specs.Frames.{most_frames}
use Rattle.nr_spec_saving.specs.Saving.{TooLong, save_evidence}
use Rattle.nr_spec_outcome.specs.Report.{Report, claims_of}
use Rattle.nr_spec_outcome.specs.Lines.{report_text}
use Rattle.nr_spec_outcome.specs.Outcome.{Fact, Form, Network, Unsigned, Head, Short, Promise, promise_files}
use Rattle.nr_spec_slices.specs.Reading.{slice_of}
use Rattle.nr_spec_slices.specs.Late.{Late, Time, Body}
use Rattle.nr_spec_slices.specs.Audits as slices
use Rattle.nr_spec_slices.specs.Audits.{outcome_of}
use Rattle.nr_spec_promises.specs.Files as files
use Rattle.nr_spec_truth.specs.Truths.{meant}
use Rattle.nr_spec_plans.specs.Disk.{Fault, ReadFault, WriteFault, Memory}
use Rattle.nr_spec_plans.specs.Plans.{Plan, Done, Refuse, Room, act, refusing, want, Ask, Read, save, ◌>>=◌}
use Rattle.nr_spec_texts.specs.Promises.{PromiseFile, promise_of, audited_by}
use Rattle.nr_spec_commands.specs.Words.{AuditRequest, CheckRequest, KeygenRequest}

-- ---- input files

pub data Input : Type 0 where
  PromiseInput : Input
  AnswerInput : Input
  AuthsInput : Input
  SeedInput : Input
  KeyInput : Input
  LogInput : Input
  EvidenceInput : Input
  FramesInput : Input
  -- the MRT files, numbered from 1
  MrtInput : (number : ℕ) → Input

-- the word for it in the lines that the program prints
abbrev pub input_name : Input → List ℕ
input_name PromiseInput = codes "promise"
input_name AnswerInput = codes "answer"
input_name AuthsInput = codes "auths"
input_name SeedInput = codes "seed"
input_name KeyInput = codes "key"
input_name LogInput = codes "log"
input_name EvidenceInput = codes "evidence"
input_name FramesInput = codes "frames"
input_name (MrtInput number) = codes "mrt" ++ decimal number

-- its greatest size in bytes
abbrev pub input_limit : Input → ℕ
input_limit PromiseInput = 1048576
input_limit AnswerInput = 2147483647
input_limit AuthsInput = 1073741824
input_limit SeedInput = 1048576
input_limit KeyInput = 1048576
input_limit LogInput = most_log
input_limit EvidenceInput = most_evidence
input_limit FramesInput = most_frames
input_limit (MrtInput number) = 2147483647

-- ---- refusals

-- what refuses a recording, or an answer of a log
pub data LogFact : Type 0 where
  -- the key or the log is of another AS than the promise file, or the log than the key
  OtherNetwork : (found : ℕ) (wanted : ℕ) → LogFact
  -- the key's tree has another root than the log
  OtherRoot : (found : List ℕ) (wanted : List ℕ) → LogFact
  -- no entry has room for a message of this length
  LongMessage : (found : ℕ) → LogFact
  -- a COMMIT is due for which the key has no leaf
  KeySpent : (spent : Spent) → LogFact
  -- the log would be longer than it may be
  LongLog : (found : ℕ) → LogFact
  -- the answer would be longer than it may be
  LongAnswer : (found : ℕ) → LogFact
  -- the log has no COMMIT to the auditor
  Unsealed : LogFact

pub data Refusal : Type 0 where
  -- no file has the name
  NoFile : (input : Input) → Refusal
  -- the file is longer than its limit
  Limit : (input : Input) (found : ℕ) → Refusal
  -- the file isn't in its grammar; the place of the first malformed field
  Malformed : (input : Input) (place : ℕ) → Refusal
  -- what the files say refuses the audit, or the check of evidence
  Refused : (fact : Fact) → Refusal
  -- the checkpoint with which the answer starts is late, or is of another body
  LateStart : (late : Late) → Refusal
  -- what the files say refuses the recording, or the answer
  Prevented : (fact : LogFact) → Refusal
  -- the evidence would be longer than it may be
  LongEvidence : (found : ℕ) → Refusal

-- ---- reading input files

-- a plan of this program
abbrev pub Work : Type 0 → Type 0
Work A = Plan Refusal A

-- the size of a file that is there and within its limit
abbrev pub sized : Input → Option ℕ → Work ℕ
sized input None = Refuse (NoFile input)
sized input (Some found) = if nat_le found (input_limit input) then Done found else Refuse (Limit input found)

-- Asks for an input file, and reads it in whole where it is there and within its limit.
unfoldable pub load : Input → (name : List ℕ) → Work (List ℕ)
load input name = do
  answer ← act (Ask name)
  size ← sized input answer
  act (Read name size)

-- what a file that is in its grammar holds
abbrev pub well_formed : {A : Type 0} → Input → Result A ℕ → Work A
well_formed input (Ok value) = Done value
well_formed input (Err place) = Refuse (Malformed input place)

-- ---- endings

-- the status with which the program ends, and the text that it offers to the sink
pub record Ending : Type 0 where
  pub status : ℕ
  pub text : List ℕ

-- a digest, or that there is none
abbrev pub digest_word : Option (List ℕ) → List ℕ
digest_word None = codes "none"
digest_word (Some digest) = encode_lower digest

abbrev pub fact_words : Fact → List (List ℕ)
fact_words Form = codes "form" ∷ codes "answer" ∷ []
fact_words (Network found wanted) = codes "network" ∷ decimal found ∷ decimal wanted ∷ []
fact_words Unsigned = codes "head" ∷ codes "unsigned" ∷ []
fact_words (Head head chain) = codes "head" ∷ encode_lower head ∷ encode_lower chain ∷ []
fact_words (Short head to) = codes "short" ∷ decimal head ∷ decimal to ∷ []
fact_words (Promise found file) = codes "promise" ∷ digest_word found ∷ encode_lower file ∷ []

-- two times, or the digests of the body and of the entry
abbrev pub late_words : Late → List (List ℕ)
late_words (Time checkpoint from) = codes "late" ∷ decimal checkpoint ∷ decimal from ∷ []
late_words (Body body entry) = codes "late" ∷ encode_lower body ∷ encode_lower entry ∷ []

abbrev pub log_fact_words : LogFact → List (List ℕ)
log_fact_words (OtherNetwork found wanted) = codes "network" ∷ decimal found ∷ decimal wanted ∷ []
log_fact_words (OtherRoot found wanted) = codes "key" ∷ encode_lower found ∷ encode_lower wanted ∷ []
log_fact_words (LongMessage found) = codes "limit" ∷ codes "message" ∷ decimal found ∷ decimal most_raw ∷ []
log_fact_words (KeySpent spent) = codes "key" ∷ decimal spent.commits ∷ decimal spent.leaves ∷ []
log_fact_words (LongLog found) = codes "limit" ∷ codes "log" ∷ decimal found ∷ decimal most_log ∷ []
log_fact_words (LongAnswer found) =
    codes "limit" ∷ codes "answer" ∷ decimal found ∷ decimal (input_limit AnswerInput) ∷ []
log_fact_words Unsealed = codes "unsealed" ∷ []

unfoldable pub refusal_ending : Refusal → Ending
refusal_ending (NoFile input) =
    record { status = 7; text = line (codes "refused" ∷ codes "nofile" ∷ input_name input ∷ []) }
refusal_ending (Limit input found) =
    record {
      status = 7;
      text = line (codes "refused" ∷ codes "limit" ∷ input_name input
          ∷ decimal found ∷ decimal (input_limit input) ∷ []);
    }
refusal_ending (Malformed input place) =
    record { status = 3; text = line (codes "malformed" ∷ input_name input ∷ decimal place ∷ []) }
refusal_ending (Refused fact) = record { status = 7; text = line (codes "refused" ∷ fact_words fact) }
refusal_ending (LateStart late) = record { status = 7; text = line (codes "refused" ∷ late_words late) }
refusal_ending (Prevented fact) = record { status = 7; text = line (codes "refused" ∷ log_fact_words fact) }
refusal_ending (LongEvidence found) =
    record {
      status = 7;
      text = line (codes "refused" ∷ codes "limit" ∷ input_name EvidenceInput
          ∷ decimal found ∷ decimal (input_limit EvidenceInput) ∷ []);
    }

-- 1 where something is claimed
abbrev pub report_status : List Claim → ℕ
report_status [] = 0
report_status (first ∷ others) = 1

-- the report by these promise files
unfoldable pub report_ending : List files.PromiseFile → Report → Ending
report_ending promises report =
    record { status = report_status (claims_of report); text = report_text promises report }

unfoldable pub key_ending : Key → Ending
key_ending key = record { status = 0; text = line (codes "root" ∷ encode_lower (key_root key) ∷ []) }

-- the canonical text of a promise file
unfoldable pub promise_ending : PromiseFile → Ending
promise_ending promise = record { status = 0; text = file_text promise.file }

-- the report, where nothing refuses the audit
abbrev pub concluded : Result Report slices.Refusal → Work Report
concluded (Ok report) = Done report
concluded (Err (slices.Malformed place)) = Refuse (Malformed AnswerInput place)
concluded (Err (slices.Refused fact)) = Refuse (Refused fact)
concluded (Err (slices.Checkpoint late)) = Refuse (LateStart late)

-- what an answer shows by a promise file, whose formulas are true where they hold
abbrev pub judged : List ℕ → PromiseFile → AnswerFile → Period → List Authenticator → Work Report
judged root promise answer period auths =
    concluded (outcome_of root (audited_by promise ∷ []) (meant (promise.says ∷ [])) answer period auths)

-- how an audit by a promise file ends that gave a report
abbrev pub audit_ending : PromiseFile → Report → Ending
audit_ending promise report = report_ending (promise_files (audited_by promise ∷ [])) report

-- ---- evidence

-- the evidence of a report on an answer of these bytes
abbrev pub evidence_of_report : (answer : List ℕ) → PromiseFile → Period → Report → EvidenceFile
evidence_of_report answer promise period report = record {
  answer = answer;
  promise = promise.text;
  period = period;
  claims = claims_of report;
}

abbrev pub long_evidence : TooLong → Refusal
long_evidence size = LongEvidence size.found

-- the evidence, where it is asked for
unfoldable pub evidence_plan : (name : Option (List ℕ)) → EvidenceFile → Work (Unit {0})
evidence_plan None e = Done tt
evidence_plan (Some name) e = refusing long_evidence (save_evidence name e)

abbrev pub usage_ending : Ending
usage_ending = record { status = 2; text = line (codes "usage" ∷ []) }

abbrev pub read_fault_ending : Ending
read_fault_ending = record { status = 4; text = line (codes "read" ∷ codes "fault" ∷ []) }

abbrev pub write_fault_ending : Ending
write_fault_ending = record { status = 5; text = line (codes "write" ∷ codes "fault" ∷ []) }

abbrev pub memory_ending : Ending
memory_ending = record { status = 6; text = line (codes "memory" ∷ []) }

-- the ending of a fault
abbrev pub fault_ending : Fault → Ending
fault_ending ReadFault = read_fault_ending
fault_ending WriteFault = write_fault_ending
fault_ending Memory = memory_ending

-- ---- commands

-- what a promise file says
unfoldable pub promise_plan : (name : List ℕ) → Work PromiseFile
promise_plan name = do
  text ← load PromiseInput name
  Room (well_formed PromiseInput (promise_of text))

-- the canonical text of a promise file
unfoldable pub check_plan : CheckRequest → Work Ending
check_plan q = do
  promise ← promise_plan q.promise
  room ← want
  Done (promise_ending promise)

-- The report on an answer, by one promise file, or the first thing that refuses it. No file is asked for after one that
-- is refused. The evidence is written and synced, where it is asked for, before the text is offered.
unfoldable pub audit_plan : AuditRequest → Work Ending
audit_plan q = do
  promise ← promise_plan q.promise
  answer_bytes ← load AnswerInput q.answer
  answer ← Room (well_formed AnswerInput (slice_of answer_bytes))
  auths_bytes ← load AuthsInput q.auths
  auths ← well_formed AuthsInput (auths_of auths_bytes)
  report ← Room (judged q.root promise answer q.period auths)
  room ← want
  saved ← evidence_plan q.evidence (evidence_of_report answer_bytes promise q.period report)
  Done (audit_ending promise report)

-- the key that is asked for, by the seed file
unfoldable pub key_plan : KeygenRequest → Work Key
key_plan q = do
  bytes ← load SeedInput q.seed
  seed ← well_formed SeedInput (seed_of bytes)
  Done (record { asn = q.asn; height = q.height; seed = seed })

-- The key file is written after all that is wanted of memory.
unfoldable pub keygen_plan : KeygenRequest → Work Ending
keygen_plan q = do
  key ← key_plan q
  room ← want
  saved ← save q.key (key_file key)
  Done (key_ending key)
