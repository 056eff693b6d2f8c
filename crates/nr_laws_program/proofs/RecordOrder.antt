-- What was done before a refusal of `record` or `answer`, and of each request.
use Rattle.std.proofs.Common.{◌≡◌, ℕ, ◌+◌, ◌-◌, ◌≤◌, List, [], ◌∷◌, ◌++◌, length, take, Option, Some, None, Result, Ok, Err, refl, sym, subst, ◌∙◌, inl, inr, append_assoc, length-append, arith}
use Rattle.std.specs.Prelude.{nat_lt}
use Rattle.std.proofs.lemmas.Bool.{cases_Bool}
use Rattle.nr_spec_bgp.specs.Records.{Item}
use Rattle.nr_spec_plans.specs.Disk.{Disk, Tape}
use Rattle.nr_spec_plans.specs.Plans.{Done, Room, followed_by, ◌>>=◌, want, save, act, Action, Ask, Read, Cut, Write, Sync, Halt, Runs}
use Rattle.nr_spec_plans.specs.Plans as plans
use Rattle.nr_spec_plans.specs.Laws.{IsAmong}
use Rattle.nr_spec_plans.specs.Steps.{OnlyBy}
use Rattle.nr_spec_plans.specs.Order.{Refuses, Allows}
use Rattle.nr_spec_plans.proofs.OrderLaws.{refused_by, refuses_followed, allows_followed}
use Rattle.nr_spec_log.specs.Chain.{LogEntry}
use Rattle.nr_spec_log.specs.Answer.{AnswerFile, answer_file}
use Rattle.nr_spec_history.specs.KeyFiles.{Key, key_root}
use Rattle.nr_spec_store.specs.LogFile.{LogFile}
use Rattle.nr_spec_store.specs.StorePlans.{append_plan, birth_plan, load_plan}
use Rattle.nr_spec_steps.specs.Events.{Event}
use Rattle.nr_spec_steps.specs.Steps.{Recorder, Spent}
use Rattle.nr_spec_steps.specs.Turns.{turn}
use Rattle.nr_spec_steps.specs.Heads.{whole_answer}
use Rattle.nr_spec_recording.specs.Records.{records_of}
use Rattle.nr_spec_recording.specs.Events.{records_in_order, skipped, too_long}
use Rattle.nr_spec_commands.specs.Words.{AnswerRequest, RecordRequest, Request, Answer, Audit, Check, Collect, Keygen, Record, Verify, request_in}
use Rattle.nr_spec_program.specs.Keys.{key_of}
use Rattle.nr_spec_texts.specs.Promises.{PromiseFile}
use Rattle.nr_spec_program.specs.Command.{Work, Ending, Refusal, LogFact, KeySpent, LongAnswer, LongLog, NoFile, Limit, Malformed, Prevented, Unsealed, KeyInput, LogInput, MrtInput, AnswerInput, input_limit, well_formed, promise_plan}
use Rattle.nr_spec_program.specs.Recording.{answer_bytes, answer_plan, answered_ending, batch_plan, born_plan, entries_in, key_file_plan, log_network, log_plan, long_message, mrt_plan, other_network, other_root, present, record_plan, recorded_ending, recorder_of, sealed_answer, speakers_of, turned, turns_for, turns_plan, unless, unread_log, unwritten_log}
use Rattle.nr_spec_program.specs.Running.{RunsTo}
use Rattle.nr_spec_program.specs.Table.{plan_for, plan_in, plan_of}
use Rattle.nr_spec_program.specs.Causes.{Permits}
use Rattle.nr_laws_program.proofs.Names.{among_first, among_last, among_taken}
use Rattle.nr_laws_program.proofs.Phases.{allows_refusing, refuses_refusing}
use Rattle.nr_laws_program.proofs.LogKinds.{KindAppends, append_log_allows, birth_log_allows, birth_log_refuses, load_log_allows, load_log_refuses}
use Rattle.nr_laws_program.proofs.PlanKinds.{load_each, promise_each, well_formed_each}
use Rattle.nr_laws_program.proofs.RecordPlans.{OfTurns, batch_each, bytes_each, born_each, key_file_each, log_each, mrt_each, present_each, save_each, sealed_each, turned_each, turns_each, turns_refuses, unless_each}
use Rattle.nr_laws_program.proofs.FileOrder.{audit_allows, check_allows, collect_allows, formed_allows, formed_refuses, keygen_allows, load_allows, load_refuses, promise_allows, verify_allows}

-- ---- what the later refusals allow

-- of what is met once all files are read
abbrev OfFacts : (Refusal → Type 0) → Type 0
OfFacts P = (fact : LogFact) → P (Prevented fact)

of_turns : (P : Refusal → Type 0) → OfFacts P → OfTurns P
of_turns P fact = record { spent = λ spent. fact (KeySpent spent); long = λ size. fact (LongLog size) }

-- from the log on
record OfLog (P : Refusal → Type 0) : Type 0 where
  pub limit : (found : ℕ) → P (Limit LogInput found)
  pub malformed : (place : ℕ) → P (Malformed LogInput place)
  pub facts : OfFacts P

-- of the MRT files from a number on
pub record OfFiles (P : Refusal → Type 0) (number : ℕ) : Type 0 where
  pub none : (n : ℕ) → number ≤ n → P (NoFile (MrtInput n))
  pub limit : (n found : ℕ) → number ≤ n → P (Limit (MrtInput n) found)
  pub malformed : (n place : ℕ) → number ≤ n → P (Malformed (MrtInput n) place)

-- from the MRT files on
record OfRest (P : Refusal → Type 0) : Type 0 where
  pub files : OfFiles P 1
  pub log : OfLog P

-- from the key on
record OfKey (P : Refusal → Type 0) : Type 0 where
  pub none : P (NoFile KeyInput)
  pub limit : (found : ℕ) → P (Limit KeyInput found)
  pub malformed : (place : ℕ) → P (Malformed KeyInput place)
  pub rest : OfRest P

-- ---- the refusals of each part of a recording

unless_refuses : (P : Refusal → Type 0) (fact : Option LogFact) → OfFacts P → Refuses P (unless fact)
unless_refuses P None of = tt
unless_refuses P (Some fact) of = of fact

pub log_refuses : (P : Refusal → Type 0) (name : List ℕ) → ((found : ℕ) → P (Limit LogInput found)) → ((place : ℕ) → P (Malformed LogInput place)) → Refuses P (log_plan name)
log_refuses P name limit malformed = refuses_refusing P unread_log (load_plan name) (load_log_refuses (λ r. P (unread_log r)) name limit malformed)

born_refuses : (P : Refusal → Type 0) (name : List ℕ) (key : Key) (found : Option LogFile) → OfFacts P → Refuses P (born_plan name key found)
unfolding born_plan
born_refuses P name key None of = refuses_refusing P unwritten_log (birth_plan name key.asn (key_root key)) (birth_log_refuses (λ r. P (unwritten_log r)) name key.asn (key_root key) (λ size. of (LongLog size)))
born_refuses P name key (Some log) of = tt

-- the turns of a recording, and its ending
abbrev turned_to_end : RecordRequest → PromiseFile → Key → List (List Item) → LogFile → Work Ending
turned_to_end q promise key files log = do
  longer ← turns_plan q.log (recorder_of promise key) log (turns_for promise files q.until)
  told ← want
  Done (recorded_ending log longer (skipped (speakers_of promise) files))

-- what is done once all files are read
abbrev worked : RecordRequest → PromiseFile → Key → List (List Item) → Option LogFile → Work Ending
worked q promise key files found = do
  key_network ← unless (other_network key.asn promise.says.network)
  network ← unless (log_network found promise.says.network)
  tree ← want
  root ← unless (other_root (key_root key) found)
  ready ← want
  fits ← unless (long_message (too_long (records_in_order (speakers_of promise) files)))
  log ← born_plan q.log key found
  turned_to_end q promise key files log

abbrev from_log : RecordRequest → PromiseFile → Key → List (List Item) → Work Ending
from_log q promise key files = log_plan q.log >>= λ found. worked q promise key files found

abbrev from_files : RecordRequest → PromiseFile → Key → Work Ending
from_files q promise key = want >>= λ room. mrt_plan 1 q.files >>= λ files. from_log q promise key files

abbrev from_key : RecordRequest → PromiseFile → Work Ending
from_key q promise = key_file_plan q.key >>= λ key. from_files q promise key

to_end_refuses : (P : Refusal → Type 0) (q : RecordRequest) (promise : PromiseFile) (key : Key) (files : List (List Item)) (log : LogFile) → OfTurns P → Refuses P (turned_to_end q promise key files log)
to_end_refuses P q promise key files log of = refuses_followed P _ _ (turns_refuses P q.log _ log _ of) (λ longer. refuses_followed P want _ tt (λ told. tt))

worked_refuses : (P : Refusal → Type 0) (q : RecordRequest) (promise : PromiseFile) (key : Key) (files : List (List Item)) (found : Option LogFile) → OfFacts P → Refuses P (worked q promise key files found)
worked_refuses P q promise key files found of =
    refuses_followed P _ _ (unless_refuses P _ of) (λ key_network.
    refuses_followed P _ _ (unless_refuses P _ of) (λ network.
    refuses_followed P want _ tt (λ tree.
    refuses_followed P _ _ (unless_refuses P _ of) (λ root.
    refuses_followed P want _ tt (λ ready.
    refuses_followed P _ _ (unless_refuses P _ of) (λ fits.
    refuses_followed P _ _ (born_refuses P q.log key found of) (λ log. to_end_refuses P q promise key files log (of_turns P of))))))))

from_log_refuses : (P : Refusal → Type 0) (q : RecordRequest) (promise : PromiseFile) (key : Key) (files : List (List Item)) → OfLog P → Refuses P (from_log q promise key files)
from_log_refuses P q promise key files of = refuses_followed P _ _ (log_refuses P q.log of.limit of.malformed) (λ found. worked_refuses P q promise key files found of.facts)

-- the rest of the files after the bytes of one are read
abbrev formed : (number : ℕ) → List (List ℕ) → List ℕ → Work (List (List Item))
formed number others bytes = do
  records ← well_formed (MrtInput number) (records_of bytes)
  room ← want
  rest ← mrt_plan (number + 1) others
  Done (records ∷ rest)

files_on : (P : Refusal → Type 0) (number : ℕ) → OfFiles P number → OfFiles P (number + 1)
files_on P number of = record { none = λ n le. of.none n (omega arith); limit = λ n found le. of.limit n found (omega arith); malformed = λ n place le. of.malformed n place (omega arith) }

pub mrt_refuses : (P : Refusal → Type 0) (number : ℕ) (names : List (List ℕ)) → OfFiles P number → Refuses P (mrt_plan number names)
unfolding mrt_plan
mrt_refuses P number [] of = tt
mrt_refuses P number (name ∷ others) of =
    refuses_followed P _ _ (load_refuses P (MrtInput number) name (of.none number (omega arith)) (λ found. of.limit number found (omega arith))) (λ bytes.
    refuses_followed P _ _ (formed_refuses P (MrtInput number) (records_of bytes) (λ place. of.malformed number place (omega arith))) (λ records.
    refuses_followed P want _ tt (λ room.
    refuses_followed P _ _ (mrt_refuses P (number + 1) others (files_on P number of)) (λ rest. tt))))

from_files_refuses : (P : Refusal → Type 0) (q : RecordRequest) (promise : PromiseFile) (key : Key) → OfRest P → Refuses P (from_files q promise key)
from_files_refuses P q promise key of = refuses_followed P want _ tt (λ room. refuses_followed P _ _ (mrt_refuses P 1 q.files of.files) (λ files. from_log_refuses P q promise key files of.log))

pub key_file_refuses : (P : Refusal → Type 0) (name : List ℕ) → P (NoFile KeyInput) → ((found : ℕ) → P (Limit KeyInput found)) → ((place : ℕ) → P (Malformed KeyInput place)) → Refuses P (key_file_plan name)
unfolding key_file_plan
key_file_refuses P name none limit malformed = refuses_followed P _ _ (load_refuses P KeyInput name none limit) (λ bytes. formed_refuses P KeyInput (key_of bytes) malformed)

from_key_refuses : (P : Refusal → Type 0) (q : RecordRequest) (promise : PromiseFile) → OfKey P → Refuses P (from_key q promise)
from_key_refuses P q promise of = refuses_followed P _ _ (key_file_refuses P q.key of.none of.limit of.malformed) (λ key. from_files_refuses P q promise key of.rest)

-- ---- each part by itself

unless_allows : (allowed : Refusal → Action → Type 0) (fact : Option LogFact) → Allows allowed (unless fact)
unless_allows allowed None = tt
unless_allows allowed (Some fact) = tt

turned_allows : (allowed : Refusal → Action → Type 0) (found : Result (List LogEntry) Spent) → Allows allowed (turned found)
turned_allows allowed (Ok batch) = tt
turned_allows allowed (Err spent) = tt

batch_allows : (allowed : Refusal → Action → Type 0) (name : List ℕ) (log : LogFile) (entries : List LogEntry) → Allows allowed (batch_plan name log entries)
unfolding batch_plan
batch_allows allowed name log [] = tt
batch_allows allowed name log (first ∷ others) = allows_refusing allowed unwritten_log (append_plan name log (first ∷ others)) (append_log_allows (λ r action. allowed (unwritten_log r) action) name log (first ∷ others))

-- the steps that write are allowed by what a turn may be refused for
abbrev WritesAllowed : (Refusal → Action → Type 0) → List ℕ → Type 0
WritesAllowed allowed name = KindAppends (λ action. OfTurns (λ r. allowed r action)) name

turns_allows : (allowed : Refusal → Action → Type 0) (name : List ℕ) (r : Recorder) (log : LogFile) (turns : List (List Event)) → WritesAllowed allowed name → Allows allowed (turns_plan name r log turns)
unfolding turns_plan
turns_allows allowed name r log [] of = tt
turns_allows allowed name r log (events ∷ others) of =
    allows_followed allowed want _ tt tt (λ room.
    allows_followed allowed _ _ (turned_allows allowed (turn r log.entries events)) (turned_each _ (turn r log.entries events)) (λ entries.
    allows_followed allowed _ _ (batch_allows allowed name log entries)
    (batch_each _ name log entries (record {
      write = λ at bytes longer. turns_refuses (λ refusal. allowed refusal (Write name at bytes)) name r longer others (of.write at bytes);
      sync = λ longer. turns_refuses (λ refusal. allowed refusal (Sync name)) name r longer others of.sync;
    }))
    (λ longer. turns_allows allowed name r longer others of)))

born_allows : (allowed : Refusal → Action → Type 0) (name : List ℕ) (key : Key) (found : Option LogFile) → ((size : ℕ) → allowed (Prevented (LongLog size)) (Ask name)) → Allows allowed (born_plan name key found)
unfolding born_plan
born_allows allowed name key None limit = allows_refusing allowed unwritten_log (birth_plan name key.asn (key_root key)) (birth_log_allows (λ r action. allowed (unwritten_log r) action) name key.asn (key_root key) limit)
born_allows allowed name key (Some log) limit = tt

to_end_allows : (allowed : Refusal → Action → Type 0) (q : RecordRequest) (promise : PromiseFile) (key : Key) (files : List (List Item)) (log : LogFile) → WritesAllowed allowed q.log → Allows allowed (turned_to_end q promise key files log)
to_end_allows allowed q promise key files log of =
    allows_followed allowed _ _ (turns_allows allowed q.log _ log _ of)
    (turns_each _ q.log _ log _ (record { write = λ at bytes longer. refuses_followed (λ refusal. allowed refusal (Write q.log at bytes)) want _ tt (λ told. tt); sync = λ longer. refuses_followed (λ refusal. allowed refusal (Sync q.log)) want _ tt (λ told. tt) }))
    (λ longer. allows_followed allowed want _ tt tt (λ told. tt))

worked_allows : (allowed : Refusal → Action → Type 0) (q : RecordRequest) (promise : PromiseFile) (key : Key) (files : List (List Item)) (found : Option LogFile) → OfTurns (λ r. allowed r (Ask q.log)) → WritesAllowed allowed q.log
    → Allows allowed (worked q promise key files found)
worked_allows allowed q promise key files found asked of =
    allows_followed allowed _ _ (unless_allows allowed _) (unless_each _ _) (λ key_network.
    allows_followed allowed _ _ (unless_allows allowed _) (unless_each _ _) (λ network.
    allows_followed allowed want _ tt tt (λ tree.
    allows_followed allowed _ _ (unless_allows allowed _) (unless_each _ _) (λ root.
    allows_followed allowed want _ tt tt (λ ready.
    allows_followed allowed _ _ (unless_allows allowed _) (unless_each _ _) (λ fits.
    allows_followed allowed _ _ (born_allows allowed q.log key found asked.long)
    (born_each _ q.log key found (λ log. to_end_refuses (λ r. allowed r (Ask q.log)) q promise key files log asked)
    (record {
      write = λ at bytes log. to_end_refuses (λ r. allowed r (Write q.log at bytes)) q promise key files log (of.write at bytes);
      sync = λ log. to_end_refuses (λ r. allowed r (Sync q.log)) q promise key files log of.sync;
    }))
    (λ log. to_end_allows allowed q promise key files log of)))))))

-- ---- `record`

abbrev Recorded : RecordRequest → Refusal → Action → Type 0
Recorded q = Permits (Record q)

log_facts_asked : (q : RecordRequest) → OfFacts (λ r. Recorded q r (Ask q.log))
log_facts_asked q = λ fact. inr (inr (among_last q.log q.files))

-- what a turn may be refused for allows to write the log
writes_allowed : (q : RecordRequest) → WritesAllowed (Recorded q) q.log
writes_allowed q = record {
  write = λ at bytes. record { spent = λ spent. inl refl; long = λ size. inl refl };
  sync = record { spent = λ spent. inl refl; long = λ size. inl refl };
}

log_allows : (q : RecordRequest) → Allows (Recorded q) (log_plan q.log)
log_allows q =
    allows_refusing (Recorded q) unread_log (load_plan q.log)
    (load_log_allows (λ r action. Recorded q (unread_log r) action) q.log
    (record { limit = λ size. inr (inr (among_last q.log q.files)); asked = λ place. inr (inr (among_last q.log q.files)); synced = λ place. inl refl; read = λ place size. inr (inr (among_last q.log q.files)) }))

from_log_allows : (q : RecordRequest) (promise : PromiseFile) (key : Key) (files : List (List Item)) → Allows (Recorded q) (from_log q promise key files)
from_log_allows q promise key files =
    allows_followed (Recorded q) _ _ (log_allows q)
    (log_each _ q.log (record {
      ask = λ found. worked_refuses (λ r. Recorded q r (Ask q.log)) q promise key files found (log_facts_asked q);
      sync = λ found. worked_refuses (λ r. Recorded q r (Sync q.log)) q promise key files found (λ fact. inl refl);
      read = λ size found. worked_refuses (λ r. Recorded q r (Read q.log size)) q promise key files found (λ fact. inr (inr (among_last q.log q.files)));
    }))
    (λ found. worked_allows (Recorded q) q promise key files found (of_turns (λ r. Recorded q r (Ask q.log)) (log_facts_asked q)) (writes_allowed q))

-- a file of the request, after those before it
record IsFile (q : RecordRequest) (number : ℕ) (name : List ℕ) (others : List (List ℕ)) : Type 0 where
  pub before : List (List ℕ)
  pub all : q.files ≡ before ++ name ∷ others
  pub count : length before + 1 ≡ number

taken : (q : RecordRequest) (number : ℕ) (name : List ℕ) (others : List (List ℕ)) (n : ℕ) → IsFile q number name others → number ≤ n → IsAmong name (take n q.files)
taken q number name others n is le = subst (λ (files : List (List ℕ)). IsAmong name (take n files)) (sym is.all) (among_taken n is.before name others (let c = is.count in omega arith))

file_asked : (q : RecordRequest) (number : ℕ) (name : List ℕ) (others : List (List ℕ)) → IsFile q number name others → OfFiles (λ r. Recorded q r (Ask name)) number
file_asked q number name others is = record {
  none = λ n le. inr (inr (taken q number name others n is le));
  limit = λ n found le. inr (inr (taken q number name others n is le));
  malformed = λ n place le. inr (inr (taken q number name others n is le));
}

file_read : (q : RecordRequest) (number : ℕ) (name : List ℕ) (others : List (List ℕ)) (size : ℕ) → IsFile q number name others → OfFiles (λ r. Recorded q r (Read name size)) (number + 1)
file_read q number name others size is = record {
  none = λ n le. inr (inr (taken q number name others (n - 1) is (omega arith)));
  limit = λ n found le. inr (inr (taken q number name others (n - 1) is (omega arith)));
  malformed = λ n place le. inr (inr (taken q number name others n is (omega arith)));
}

formed_rest : (P : Refusal → Type 0) (number : ℕ) (others : List (List ℕ)) (bytes : List ℕ) → ((place : ℕ) → P (Malformed (MrtInput number) place)) → OfFiles P (number + 1) → Refuses P (formed number others bytes)
formed_rest P number others bytes malformed of =
    refuses_followed P _ _ (formed_refuses P (MrtInput number) (records_of bytes) malformed) (λ records.
    refuses_followed P want _ tt (λ room. refuses_followed P _ _ (mrt_refuses P (number + 1) others of) (λ rest. tt)))

-- the files from a number on, after those before them
mrt_allows : (q : RecordRequest) (before : List (List ℕ)) (number : ℕ) (names : List (List ℕ)) → q.files ≡ before ++ names → length before + 1 ≡ number → Allows (Recorded q) (mrt_plan number names)
unfolding mrt_plan
mrt_allows q before number [] all count = tt
mrt_allows q before number (name ∷ others) all count =
    let is : IsFile q number name others = record { before = before; all = all; count = count } in
    let asked = file_asked q number name others is in
    allows_followed (Recorded q) _ _ (load_allows (Recorded q) (MrtInput number) name (asked.none number (omega arith)) (λ found. asked.limit number found (omega arith)))
    (load_each _ (MrtInput number) name (record {
      ask = λ bytes. formed_rest (λ r. Recorded q r (Ask name)) number others bytes (λ place. asked.malformed number place (omega arith)) (files_on (λ r. Recorded q r (Ask name)) number asked);
      read = λ size bytes. formed_rest (λ r. Recorded q r (Read name size)) number others bytes (λ place. inr (inr (taken q number name others number is (omega arith)))) (file_read q number name others size is);
    }))
    (λ bytes. allows_followed (Recorded q) _ _ (formed_allows (Recorded q) (MrtInput number) (records_of bytes)) (well_formed_each _ (MrtInput number) (records_of bytes)) (λ records.
    allows_followed (Recorded q) want _ tt tt (λ room.
    allows_followed (Recorded q) _ _
    (mrt_allows q (before ++ name ∷ []) (number + 1) others (all ∙ sym (append_assoc before (name ∷ []) others)) (let l = length-append before (name ∷ []) in omega arith))
    (mrt_each _ (number + 1) others (λ other among. record { ask = λ rest. tt; read = λ size rest. tt })) (λ rest. tt))))

-- the files and the log after them
file_log_asked : (q : RecordRequest) (name : List ℕ) → IsAmong name q.files → OfLog (λ r. Recorded q r (Ask name))
file_log_asked q name is = record { limit = λ found. inr (inr (among_first name q.files (q.log ∷ []) is)); malformed = λ place. inr (inr (among_first name q.files (q.log ∷ []) is)); facts = λ fact. inr (inr (among_first name q.files (q.log ∷ []) is)) }

file_log_read : (q : RecordRequest) (name : List ℕ) (size : ℕ) → IsAmong name q.files → OfLog (λ r. Recorded q r (Read name size))
file_log_read q name size is = record { limit = λ found. inr (inr is); malformed = λ place. inr (inr (among_first name q.files (q.log ∷ []) is)); facts = λ fact. inr (inr (among_first name q.files (q.log ∷ []) is)) }

from_files_allows : (q : RecordRequest) (promise : PromiseFile) (key : Key) → Allows (Recorded q) (from_files q promise key)
from_files_allows q promise key =
    allows_followed (Recorded q) want _ tt tt (λ room.
    allows_followed (Recorded q) _ _ (mrt_allows q [] 1 q.files refl refl)
    (mrt_each _ 1 q.files (λ name is. record {
      ask = λ files. from_log_refuses (λ r. Recorded q r (Ask name)) q promise key files (file_log_asked q name is);
      read = λ size files. from_log_refuses (λ r. Recorded q r (Read name size)) q promise key files (file_log_read q name size is);
    }))
    (λ files. from_log_allows q promise key files))

rest_after_key : (q : RecordRequest) → OfRest (λ r. Recorded q r (Ask q.key))
rest_after_key q = record {
  files = record { none = λ n le. inr (inl refl); limit = λ n found le. inr (inl refl); malformed = λ n place le. inr (inl refl) };
  log = record { limit = λ found. inr (inl refl); malformed = λ place. inr (inl refl); facts = λ fact. inr (inl refl) };
}

rest_after_key_read : (q : RecordRequest) (size : ℕ) → OfRest (λ r. Recorded q r (Read q.key size))
rest_after_key_read q size = record {
  files = record { none = λ n le. inr (inl refl); limit = λ n found le. inr (inl refl); malformed = λ n place le. inr (inl refl) };
  log = record { limit = λ found. inr (inl refl); malformed = λ place. inr (inl refl); facts = λ fact. inr (inl refl) };
}

-- a key file, where these are allowed
key_file_allows : (allowed : Refusal → Action → Type 0) (name : List ℕ) → allowed (NoFile KeyInput) (Ask name) → ((found : ℕ) → allowed (Limit KeyInput found) (Ask name)) → ((place : ℕ) → allowed (Malformed KeyInput place) (Ask name))
    → ((size place : ℕ) → allowed (Malformed KeyInput place) (Read name size)) → Allows allowed (key_file_plan name)
unfolding key_file_plan
key_file_allows allowed name none limit asked read =
    allows_followed allowed _ _ (load_allows allowed KeyInput name none limit)
    (load_each _ KeyInput name (record {
      ask = λ bytes. formed_refuses (λ r. allowed r (Ask name)) KeyInput (key_of bytes) asked;
      read = λ size bytes. formed_refuses (λ r. allowed r (Read name size)) KeyInput (key_of bytes) (read size);
    }))
    (λ bytes. formed_allows allowed KeyInput (key_of bytes))

from_key_allows : (q : RecordRequest) (promise : PromiseFile) → Allows (Recorded q) (from_key q promise)
from_key_allows q promise =
    allows_followed (Recorded q) _ _ (key_file_allows (Recorded q) q.key (inr (inl refl)) (λ found. inr (inl refl)) (λ place. inr (inl refl)) (λ size place. inr (inl refl)))
    (key_file_each _ q.key (record {
      ask = λ key. from_files_refuses (λ r. Recorded q r (Ask q.key)) q promise key (rest_after_key q);
      read = λ size key. from_files_refuses (λ r. Recorded q r (Read q.key size)) q promise key (rest_after_key_read q size);
    }))
    (λ key. from_files_allows q promise key)

key_after_promise : (q : RecordRequest) → OfKey (λ r. Recorded q r (Ask q.promise))
key_after_promise q = record {
  none = inl refl;
  limit = λ found. inl refl;
  malformed = λ place. inl refl;
  rest = record {
    files = record { none = λ n le. inl refl; limit = λ n found le. inl refl; malformed = λ n place le. inl refl };
    log = record { limit = λ found. inl refl; malformed = λ place. inl refl; facts = λ fact. inl refl };
  };
}

key_after_promise_read : (q : RecordRequest) (size : ℕ) → OfKey (λ r. Recorded q r (Read q.promise size))
key_after_promise_read q size = record {
  none = inl refl;
  limit = λ found. inl refl;
  malformed = λ place. inl refl;
  rest = record {
    files = record { none = λ n le. inl refl; limit = λ n found le. inl refl; malformed = λ n place le. inl refl };
    log = record { limit = λ found. inl refl; malformed = λ place. inl refl; facts = λ fact. inl refl };
  };
}

record_allows : (q : RecordRequest) → Allows (Recorded q) (plan_of (Record q))
unfolding plan_of record_plan
record_allows q =
    allows_followed (Recorded q) (promise_plan q.promise) (from_key q) (promise_allows (Recorded q) q.promise (inl refl) (λ found. inl refl) (λ place. inl refl) (λ size place. inl refl))
    (promise_each _ q.promise (record {
      ask = λ promise. from_key_refuses (λ r. Recorded q r (Ask q.promise)) q promise (key_after_promise q);
      read = λ size promise. from_key_refuses (λ r. Recorded q r (Read q.promise size)) q promise (key_after_promise_read q size);
    }))
    (from_key_allows q)

-- ---- `answer`

abbrev Replied : AnswerRequest → Refusal → Action → Type 0
Replied q = Permits (Answer q)

-- what is done once the key and the log are read
abbrev replied : AnswerRequest → Key → Option LogFile → Work Ending
replied q key found = do
  network ← unless (log_network found key.asn)
  tree ← want
  root ← unless (other_root (key_root key) found)
  ready ← want
  answer ← sealed_answer (whole_answer key (entries_in found))
  bytes ← answer_bytes answer
  room ← want
  saved ← save q.out bytes
  Done (answered_ending answer)

abbrev from_found : AnswerRequest → Key → Work Ending
from_found q key = log_plan q.log >>= λ found. replied q key found

abbrev from_size : AnswerRequest → Key → Option ℕ → Work Ending
from_size q key size = present size >>= λ there. from_found q key

abbrev from_asked : AnswerRequest → Key → Work Ending
from_asked q key = act (Ask q.log) >>= λ size. from_size q key size

-- what the refusals from the log's absence on allow
record OfSize (P : Refusal → Type 0) : Type 0 where
  pub none : P (NoFile LogInput)
  pub log : OfLog P

present_refuses : (P : Refusal → Type 0) (size : Option ℕ) → P (NoFile LogInput) → Refuses P (present size)
present_refuses P None none = none
present_refuses P (Some size) none = tt

sealed_refuses : (P : Refusal → Type 0) (found : Option AnswerFile) → OfFacts P → Refuses P (sealed_answer found)
sealed_refuses P None of = of Unsealed
sealed_refuses P (Some answer) of = tt

bytes_refuses : (P : Refusal → Type 0) (answer : AnswerFile) → OfFacts P → Refuses P (answer_bytes answer)
unfolding answer_bytes
bytes_refuses P answer of = elim (cases_Bool (nat_lt (input_limit AnswerInput) (length (answer_file answer)))) [ inl is ↦ rw is (of (LongAnswer (length (answer_file answer)))) | inr is ↦ rw is tt ]

save_refuses : (P : Refusal → Type 0) (name bytes : List ℕ) → Refuses {E = Refusal} P (save name bytes)
unfolding save followed_by
save_refuses P name bytes = λ a b c. tt

replied_refuses : (P : Refusal → Type 0) (q : AnswerRequest) (key : Key) (found : Option LogFile) → OfFacts P → Refuses P (replied q key found)
replied_refuses P q key found of =
    refuses_followed P _ _ (unless_refuses P _ of) (λ network.
    refuses_followed P want _ tt (λ tree.
    refuses_followed P _ _ (unless_refuses P _ of) (λ root.
    refuses_followed P want _ tt (λ ready.
    refuses_followed P _ _ (sealed_refuses P _ of) (λ answer.
    refuses_followed P _ _ (bytes_refuses P answer of) (λ bytes.
    refuses_followed P want _ tt (λ room.
    refuses_followed P _ _ (save_refuses P q.out bytes) (λ saved. tt))))))))

from_found_refuses : (P : Refusal → Type 0) (q : AnswerRequest) (key : Key) → OfLog P → Refuses P (from_found q key)
from_found_refuses P q key of = refuses_followed P _ _ (log_refuses P q.log of.limit of.malformed) (λ found. replied_refuses P q key found of.facts)

from_size_refuses : (P : Refusal → Type 0) (q : AnswerRequest) (key : Key) (size : Option ℕ) → OfSize P → Refuses P (from_size q key size)
from_size_refuses P q key size of = refuses_followed P _ _ (present_refuses P size of.none) (λ there. from_found_refuses P q key of.log)

present_allows : (allowed : Refusal → Action → Type 0) (size : Option ℕ) → Allows allowed (present size)
present_allows allowed None = tt
present_allows allowed (Some size) = tt

sealed_allows : (allowed : Refusal → Action → Type 0) (found : Option AnswerFile) → Allows allowed (sealed_answer found)
sealed_allows allowed None = tt
sealed_allows allowed (Some answer) = tt

bytes_allows : (allowed : Refusal → Action → Type 0) (answer : AnswerFile) → Allows allowed (answer_bytes answer)
unfolding answer_bytes
bytes_allows allowed answer = elim (cases_Bool (nat_lt (input_limit AnswerInput) (length (answer_file answer)))) [ inl is ↦ rw is tt | inr is ↦ rw is tt ]

save_allows : (allowed : Refusal → Action → Type 0) (name bytes : List ℕ) → Allows {E = Refusal} allowed (save name bytes)
unfolding save followed_by
save_allows allowed name bytes = λ a. (λ b c. tt, λ b. (λ c. tt, λ c. (tt, tt)))

replied_allows : (allowed : Refusal → Action → Type 0) (q : AnswerRequest) (key : Key) (found : Option LogFile) → Allows allowed (replied q key found)
replied_allows allowed q key found =
    allows_followed allowed _ _ (unless_allows allowed _) (unless_each _ _) (λ network.
    allows_followed allowed want _ tt tt (λ tree.
    allows_followed allowed _ _ (unless_allows allowed _) (unless_each _ _) (λ root.
    allows_followed allowed want _ tt tt (λ ready.
    allows_followed allowed _ _ (sealed_allows allowed _) (sealed_each _ _) (λ answer.
    allows_followed allowed _ _ (bytes_allows allowed answer) (bytes_each _ answer) (λ bytes.
    allows_followed allowed want _ tt tt (λ room.
    allows_followed allowed _ _ (save_allows allowed q.out bytes) (save_each _ q.out bytes (record { cut = λ saved. tt; write = λ b saved. tt; sync = λ saved. tt })) (λ saved. tt))))))))

from_found_allows : (q : AnswerRequest) (key : Key) → Allows (Replied q) (from_found q key)
from_found_allows q key =
    allows_followed (Replied q) _ _
    (allows_refusing (Replied q) unread_log (load_plan q.log) (load_log_allows (λ r action. Replied q (unread_log r) action) q.log
    (record { limit = λ size. inr (inl refl); asked = λ place. inr (inl refl); synced = λ place. inl refl; read = λ place size. inr (inl refl) })))
    (log_each _ q.log (record {
      ask = λ found. replied_refuses (λ r. Replied q r (Ask q.log)) q key found (λ fact. inr (inl refl));
      sync = λ found. replied_refuses (λ r. Replied q r (Sync q.log)) q key found (λ fact. inl refl);
      read = λ size found. replied_refuses (λ r. Replied q r (Read q.log size)) q key found (λ fact. inr (inl refl));
    }))
    (λ found. replied_allows (Replied q) q key found)

from_size_allows : (q : AnswerRequest) (key : Key) (size : Option ℕ) → Allows (Replied q) (from_size q key size)
from_size_allows q key size = allows_followed (Replied q) _ _ (present_allows (Replied q) size) (present_each _ size) (λ there. from_found_allows q key)

size_asked : (q : AnswerRequest) → OfSize (λ r. Replied q r (Ask q.log))
size_asked q = record { none = inr (inl refl); log = record { limit = λ found. inr (inl refl); malformed = λ place. inr (inl refl); facts = λ fact. inr (inl refl) } }

from_asked_allows : (q : AnswerRequest) (key : Key) → Allows (Replied q) (from_asked q key)
unfolding followed_by
from_asked_allows q key = λ size. (from_size_refuses (λ r. Replied q r (Ask q.log)) q key size (size_asked q), from_size_allows q key size)

from_asked_refuses : (P : Refusal → Type 0) (q : AnswerRequest) (key : Key) → OfSize P → Refuses P (from_asked q key)
unfolding followed_by
from_asked_refuses P q key of = λ size. from_size_refuses P q key size of

answer_key_asked : (q : AnswerRequest) → OfSize (λ r. Replied q r (Ask q.key))
answer_key_asked q = record { none = inl refl; log = record { limit = λ found. inl refl; malformed = λ place. inl refl; facts = λ fact. inl refl } }

answer_key_read : (q : AnswerRequest) (size : ℕ) → OfSize (λ r. Replied q r (Read q.key size))
answer_key_read q size = record { none = inl refl; log = record { limit = λ found. inl refl; malformed = λ place. inl refl; facts = λ fact. inl refl } }

answer_allows : (q : AnswerRequest) → Allows (Replied q) (plan_of (Answer q))
unfolding plan_of answer_plan
answer_allows q =
    allows_followed (Replied q) (key_file_plan q.key) (from_asked q) (key_file_allows (Replied q) q.key (inl refl) (λ found. inl refl) (λ place. inl refl) (λ size place. inl refl))
    (key_file_each _ q.key (record {
      ask = λ key. from_asked_refuses (λ r. Replied q r (Ask q.key)) q key (answer_key_asked q);
      read = λ size key. from_asked_refuses (λ r. Replied q r (Read q.key size)) q key (answer_key_read q size);
    }))
    (from_asked_allows q)

-- ---- the requests

request_allows : (request : Request) → Allows (Permits request) (plan_of request)
request_allows (Audit q) = audit_allows q
request_allows (Keygen q) = keygen_allows q
request_allows (Check q) = check_allows q
request_allows (Record q) = record_allows q
request_allows (Answer q) = answer_allows q
request_allows (Verify q) = verify_allows q
request_allows (Collect q) = collect_allows q

pub run_refused_by : (words : List (List ℕ)) (request : Request) (refusal : Refusal) (old new : Disk) (before after : Tape) (status : ℕ) → request_in words ≡ Some request → (run : RunsTo (plan_for words) old new before after status)
    → run.result ≡ Err (plans.Refused refusal) → OnlyBy (Permits request refusal) old new
run_refused_by words request refusal old new before after status is run refused =
    refused_by (Permits request) (Room (plan_of request)) old new refusal (request_allows request)
    (subst (λ (r : Option Request). Runs (Room (plan_in r)) old new (Err (plans.Refused refusal))) is (subst (λ (r : Result Ending (Halt Refusal)). Runs (plan_for words) old new r) refused run.runs))
