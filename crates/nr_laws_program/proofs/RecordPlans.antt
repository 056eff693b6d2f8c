-- What kinds of steps the plans of `record` and `answer` have, and that these look first and write afterwards.
use Rattle.std.proofs.Common.{◌≡◌, ℕ, ◌+◌, List, [], ◌∷◌, Option, Some, None, Result, Ok, Err, refl, inl, inr, true}
use Rattle.std.specs.Prelude.{length, nat_lt}
use Rattle.std.proofs.lemmas.Bool.{cases_Bool}
use Rattle.nr_spec_plans.specs.Plans.{followed_by, want, save, Action, Ask, Cut, Write, Sync}
use Rattle.nr_spec_plans.specs.Laws.{Each, IsAmong}
use Rattle.nr_spec_plans.specs.Order.{Refuses}
use Rattle.nr_spec_plans.proofs.PlanLaws.{each_followed}
use Rattle.nr_spec_plans.proofs.OrderLaws.{refuses_followed}
use Rattle.nr_spec_log.specs.Chain.{LogEntry}
use Rattle.nr_spec_log.specs.Answer.{AnswerFile, answer_file}
use Rattle.nr_spec_history.specs.KeyFiles.{Key, key_root}
use Rattle.nr_spec_store.specs.LogFile.{LogFile}
use Rattle.nr_spec_store.specs.StorePlans.{append_plan, birth_plan, load_plan}
use Rattle.nr_spec_steps.specs.Events.{Event}
use Rattle.nr_spec_steps.specs.Steps.{Recorder, Spent}
use Rattle.nr_spec_steps.specs.Turns.{turn}
use Rattle.nr_spec_recording.specs.Records.{records_of}
use Rattle.nr_spec_commands.specs.Words.{AnswerRequest, RecordRequest, Answer, Record}
use Rattle.nr_spec_program.specs.Keys.{key_of}
use Rattle.nr_spec_program.specs.Command.{Refusal, LogFact, KeySpent, LongLog, Prevented, MrtInput, AnswerInput, input_limit}
use Rattle.nr_spec_program.specs.Recording.{answer_bytes, answer_plan, batch_plan, born_plan, key_file_plan, log_plan, mrt_plan, present, record_plan, sealed_answer, turned, turns_plan, unless, unread_log, unwritten_log}
use Rattle.nr_spec_program.specs.Table.{plan_of}
use Rattle.nr_spec_program.specs.Causes.{is_met_late}
use Rattle.nr_laws_program.proofs.Phases.{IsPhased, IsWriting, each_refusing, phased_after, phased_refusing, phased_then, refuses_refusing}
use Rattle.nr_laws_program.proofs.LogKinds.{KindAppends, KindLoads, append_log_each, append_log_refuses, birth_log_each, birth_phased, load_log_each, writes_log}
use Rattle.nr_laws_program.proofs.PlanKinds.{KindReads, load_each, promise_each, well_formed_each}

-- ---- steps of one kind

pub unless_each : (kind : Action → Type 0) (fact : Option LogFact) → Each kind (unless fact)
unless_each kind None = tt
unless_each kind (Some fact) = tt

pub key_file_each : (kind : Action → Type 0) (name : List ℕ) → KindReads kind name → Each kind (key_file_plan name)
unfolding key_file_plan
key_file_each kind name is = each_followed kind _ _ (load_each kind _ name is) (λ bytes. well_formed_each kind _ (key_of bytes))

-- the same of each of these names
abbrev pub AllRead : (kind : Action → Type 0) → List (List ℕ) → Type 0
AllRead kind names = (name : List ℕ) → IsAmong name names → KindReads kind name

pub mrt_each : (kind : Action → Type 0) (number : ℕ) (names : List (List ℕ)) → AllRead kind names → Each kind (mrt_plan number names)
unfolding mrt_plan
mrt_each kind number [] is = tt
mrt_each kind number (name ∷ others) is =
    each_followed kind _ _ (load_each kind (MrtInput number) name (is name (inl refl))) (λ bytes.
    each_followed kind _ _ (well_formed_each kind (MrtInput number) (records_of bytes)) (λ records.
    each_followed kind want _ tt (λ room.
    each_followed kind _ _ (mrt_each kind (number + 1) others (λ other among. is other (inr among))) (λ rest. tt))))

pub log_each : (kind : Action → Type 0) (name : List ℕ) → KindLoads kind name → Each kind (log_plan name)
log_each kind name is = each_refusing kind unread_log (load_plan name) (load_log_each kind name is)

pub born_each : (kind : Action → Type 0) (name : List ℕ) (key : Key) (found : Option LogFile) → kind (Ask name) → KindAppends kind name → Each kind (born_plan name key found)
unfolding born_plan
born_each kind name key None ask is = each_refusing kind unwritten_log (birth_plan name key.asn (key_root key)) (birth_log_each kind name key.asn (key_root key) ask is)
born_each kind name key (Some log) ask is = tt

pub turned_each : (kind : Action → Type 0) (found : Result (List LogEntry) Spent) → Each kind (turned found)
turned_each kind (Ok batch) = tt
turned_each kind (Err spent) = tt

pub batch_each : (kind : Action → Type 0) (name : List ℕ) (log : LogFile) (entries : List LogEntry) → KindAppends kind name → Each kind (batch_plan name log entries)
unfolding batch_plan
batch_each kind name log [] is = tt
batch_each kind name log (first ∷ others) is = each_refusing kind unwritten_log (append_plan name log (first ∷ others)) (append_log_each kind name log (first ∷ others) is)

pub turns_each : (kind : Action → Type 0) (name : List ℕ) (r : Recorder) (log : LogFile) (turns : List (List Event)) → KindAppends kind name → Each kind (turns_plan name r log turns)
unfolding turns_plan
turns_each kind name r log [] is = tt
turns_each kind name r log (events ∷ others) is =
    each_followed kind want _ tt (λ room.
    each_followed kind _ _ (turned_each kind (turn r log.entries events)) (λ entries.
    each_followed kind _ _ (batch_each kind name log entries is) (λ longer. turns_each kind name r longer others is)))

pub record_each : (kind : Action → Type 0) (q : RecordRequest) → KindReads kind q.promise → KindReads kind q.key → AllRead kind q.files → KindLoads kind q.log → KindAppends kind q.log → Each kind (plan_of (Record q))
unfolding plan_of record_plan
record_each kind q promise key files loads appends =
    each_followed kind _ _ (promise_each kind q.promise promise) (λ p.
    each_followed kind _ _ (key_file_each kind q.key key) (λ k.
    each_followed kind want _ tt (λ a.
    each_followed kind _ _ (mrt_each kind 1 q.files files) (λ items.
    each_followed kind _ _ (log_each kind q.log loads) (λ found.
    each_followed kind _ _ (unless_each kind _) (λ b.
    each_followed kind _ _ (unless_each kind _) (λ c.
    each_followed kind want _ tt (λ d.
    each_followed kind _ _ (unless_each kind _) (λ e.
    each_followed kind want _ tt (λ f.
    each_followed kind _ _ (unless_each kind _) (λ g.
    each_followed kind _ _ (born_each kind q.log k found loads.ask appends) (λ log.
    each_followed kind _ _ (turns_each kind q.log _ log _ appends) (λ longer.
    each_followed kind want _ tt (λ h. tt))))))))))))))

pub present_each : (kind : Action → Type 0) (size : Option ℕ) → Each kind (present size)
present_each kind None = tt
present_each kind (Some size) = tt

pub sealed_each : (kind : Action → Type 0) (found : Option AnswerFile) → Each kind (sealed_answer found)
sealed_each kind None = tt
sealed_each kind (Some answer) = tt

pub bytes_each : (kind : Action → Type 0) (answer : AnswerFile) → Each kind (answer_bytes answer)
unfolding answer_bytes
bytes_each kind answer = elim (cases_Bool (nat_lt (input_limit AnswerInput) (length (answer_file answer)))) [ inl is ↦ rw is tt | inr is ↦ rw is tt ]

-- the steps that write a file in whole are of this kind
pub record KindSaves (kind : Action → Type 0) (name : List ℕ) : Type 0 where
  pub cut : kind (Cut name 0)
  pub write : (bytes : List ℕ) → kind (Write name 0 bytes)
  pub sync : kind (Sync name)

pub save_each : (kind : Action → Type 0) (name bytes : List ℕ) → KindSaves kind name → Each {E = Refusal} kind (save name bytes)
unfolding save followed_by
save_each kind name bytes is = (is.cut, λ a. (is.write bytes, λ b. (is.sync, λ c. tt)))

pub answer_each : (kind : Action → Type 0) (q : AnswerRequest) → KindReads kind q.key → KindLoads kind q.log → KindSaves kind q.out → Each kind (plan_of (Answer q))
unfolding plan_of answer_plan
answer_each kind q key loads saves =
    each_followed kind _ _ (key_file_each kind q.key key) (λ k.
    each_followed kind _ _ (loads.ask, λ size. tt) (λ size.
    each_followed kind _ _ (present_each kind size) (λ there.
    each_followed kind _ _ (log_each kind q.log loads) (λ found.
    each_followed kind _ _ (unless_each kind _) (λ b.
    each_followed kind want _ tt (λ c.
    each_followed kind _ _ (unless_each kind _) (λ d.
    each_followed kind want _ tt (λ e.
    each_followed kind _ _ (sealed_each kind _) (λ answer.
    each_followed kind _ _ (bytes_each kind answer) (λ bytes.
    each_followed kind want _ tt (λ f.
    each_followed kind _ _ (save_each kind q.out bytes saves) (λ saved. tt))))))))))))

-- ---- refusals of turns

-- what a turn may be refused for
pub record OfTurns (P : Refusal → Type 0) : Type 0 where
  pub spent : (spent : Spent) → P (Prevented (KeySpent spent))
  pub long : (size : ℕ) → P (Prevented (LongLog size))

pub turned_refuses : (P : Refusal → Type 0) (found : Result (List LogEntry) Spent) → OfTurns P → Refuses P (turned found)
turned_refuses P (Ok batch) of = tt
turned_refuses P (Err spent) of = of.spent spent

pub batch_refuses : (P : Refusal → Type 0) (name : List ℕ) (log : LogFile) (entries : List LogEntry) → OfTurns P → Refuses P (batch_plan name log entries)
unfolding batch_plan
batch_refuses P name log [] of = tt
batch_refuses P name log (first ∷ others) of = refuses_refusing P unwritten_log (append_plan name log (first ∷ others)) (append_log_refuses (λ r. P (unwritten_log r)) name log (first ∷ others) of.long)

pub turns_refuses : (P : Refusal → Type 0) (name : List ℕ) (r : Recorder) (log : LogFile) (turns : List (List Event)) → OfTurns P → Refuses P (turns_plan name r log turns)
unfolding turns_plan
turns_refuses P name r log [] of = tt
turns_refuses P name r log (events ∷ others) of =
    refuses_followed P want _ tt (λ room.
    refuses_followed P _ _ (turned_refuses P (turn r log.entries events) of) (λ entries.
    refuses_followed P _ _ (batch_refuses P name log entries of) (λ longer. turns_refuses P name r longer others of)))

-- ---- first what looks, then what writes

-- the refusals that a turn meets
abbrev pub IsLate : Refusal → Type 0
IsLate refusal = is_met_late refusal ≡ true

pub late_turns : OfTurns IsLate
late_turns = record { spent = λ spent. refl; long = λ size. refl }

born_phased : (kind : Action → Type 0) (name : List ℕ) (key : Key) (found : Option LogFile) → kind (Ask name) → IsPhased kind IsLate (born_plan name key found)
unfolding born_plan
born_phased kind name key None ask = phased_refusing kind IsLate unwritten_log (birth_plan name key.asn (key_root key)) (birth_phased kind (λ r. IsLate (unwritten_log r)) name key.asn (key_root key) ask (λ size. refl))
born_phased kind name key (Some log) ask = tt

pub record_phased : (kind : Action → Type 0) (q : RecordRequest) → KindReads kind q.promise → KindReads kind q.key → AllRead kind q.files → KindLoads kind q.log → IsPhased kind IsLate (plan_of (Record q))
unfolding plan_of record_plan
record_phased kind q promise key files loads =
    phased_after kind IsLate _ _ (promise_each kind q.promise promise) (λ p.
    phased_after kind IsLate _ _ (key_file_each kind q.key key) (λ k.
    phased_after kind IsLate want _ tt (λ a.
    phased_after kind IsLate _ _ (mrt_each kind 1 q.files files) (λ items.
    phased_after kind IsLate _ _ (log_each kind q.log loads) (λ found.
    phased_after kind IsLate _ _ (unless_each kind _) (λ b.
    phased_after kind IsLate _ _ (unless_each kind _) (λ c.
    phased_after kind IsLate want _ tt (λ d.
    phased_after kind IsLate _ _ (unless_each kind _) (λ e.
    phased_after kind IsLate want _ tt (λ f.
    phased_after kind IsLate _ _ (unless_each kind _) (λ g.
    phased_then kind IsLate _ _ (born_phased kind q.log k found loads.ask)
    (λ log. each_followed IsWriting _ _ (turns_each IsWriting q.log _ log _ (writes_log q.log)) (λ longer. each_followed IsWriting want _ tt (λ h. tt)))
    (λ log. refuses_followed IsLate _ _ (turns_refuses IsLate q.log _ log _ late_turns) (λ longer. refuses_followed IsLate want _ tt (λ h. tt))))))))))))))

save_phased : (kind : Action → Type 0) (late : Refusal → Type 0) (name bytes : List ℕ) → IsPhased {E = Refusal} kind late (save name bytes)
unfolding save followed_by
save_phased kind late name bytes = inr (tt, λ a. ((tt, λ b. (tt, λ c. tt)), λ b c. tt))

pub answer_phased : (kind : Action → Type 0) (q : AnswerRequest) → KindReads kind q.key → KindLoads kind q.log → IsPhased kind IsLate (plan_of (Answer q))
unfolding plan_of answer_plan
answer_phased kind q key loads =
    phased_after kind IsLate _ _ (key_file_each kind q.key key) (λ k.
    phased_after kind IsLate _ _ (loads.ask, λ size. tt) (λ size.
    phased_after kind IsLate _ _ (present_each kind size) (λ there.
    phased_after kind IsLate _ _ (log_each kind q.log loads) (λ found.
    phased_after kind IsLate _ _ (unless_each kind _) (λ b.
    phased_after kind IsLate want _ tt (λ c.
    phased_after kind IsLate _ _ (unless_each kind _) (λ d.
    phased_after kind IsLate want _ tt (λ e.
    phased_after kind IsLate _ _ (sealed_each kind _) (λ answer.
    phased_after kind IsLate _ _ (bytes_each kind answer) (λ bytes.
    phased_after kind IsLate want _ tt (λ f.
    phased_then kind IsLate _ _ (save_phased kind IsLate q.out bytes) (λ saved. tt) (λ saved. tt))))))))))))
