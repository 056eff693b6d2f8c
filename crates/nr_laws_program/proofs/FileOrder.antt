-- What was done before a refusal.
use Rattle.std.proofs.Common.{◌≡◌, ℕ, length, List, [], ◌∷◌, Option, Some, None, Result, Ok, Err, refl, sym, subst, inl, inr}
use Rattle.std.specs.Prelude.{Bool, nat_le, nat_lt}
use Rattle.std.proofs.lemmas.Bool.{cases_Bool}
use Rattle.nr_spec_plans.specs.Plans.{Done, Room, followed_by, ◌>>=◌, want, save, Action, Ask, Read}
use Rattle.nr_spec_plans.specs.Order.{Refuses, Allows}
use Rattle.nr_spec_plans.proofs.OrderLaws.{refuses_followed, allows_followed}
use Rattle.nr_spec_log.specs.Authenticator.{Authenticator, auths_of}
use Rattle.nr_spec_log.specs.Answer.{AnswerFile}
use Rattle.nr_spec_history.specs.KeyFiles.{seed_of}
use Rattle.nr_spec_evidence.specs.Evidence.{EvidenceFile, evidence_file, most_evidence}
use Rattle.nr_spec_saving.specs.Saving.{TooLong, evidence_parts, save_evidence, save_parts}
use Rattle.nr_spec_verify.specs.Verified as evidence
use Rattle.nr_spec_verify.specs.Verified.{verified}
use Rattle.nr_spec_outcome.specs.Report.{Report}
use Rattle.nr_spec_outcome.specs.Outcome.{Fact, Form, Head, Network, Promise, Short, Unsigned, outcome_over}
use Rattle.nr_spec_report.specs.Wrong.{Base}
use Rattle.nr_spec_truth.specs.Truths.{meant}
use Rattle.nr_spec_history.specs.Conflicts.{Period}
use Rattle.nr_spec_slices.specs.Late.{Late, late_fact}
use Rattle.nr_spec_slices.specs.Reading.{slice_of}
use Rattle.nr_spec_slices.specs.Audits as slices
use Rattle.nr_spec_slices.specs.Audits.{base_by, outcome_by, outcome_of, with_late}
use Rattle.nr_spec_slices.proofs.Sliced.{Sliced, sliced}
use Rattle.nr_spec_commands.specs.Words.{AuditRequest, CheckRequest, CollectRequest, KeygenRequest, VerifyRequest, Audit, Check, Collect, Keygen, Verify}
use Rattle.nr_spec_texts.specs.Promises.{PromiseFile, audited_by, promise_of}
use Rattle.nr_spec_program.specs.Command.{Input, PromiseInput, AnswerInput, AuthsInput, SeedInput, EvidenceInput, FramesInput, Work, Ending, Refusal, NoFile, Limit, Malformed, load, sized, well_formed, LongEvidence, evidence_plan, long_evidence, concluded, judged, promise_plan, check_plan, audit_plan, key_plan, keygen_plan, input_limit}
use Rattle.nr_spec_program.specs.Verifying.{checked, verified_ending, verify_plan}
use Rattle.nr_spec_frames.specs.Frames.{frames_of}
use Rattle.nr_spec_program.specs.Collecting.{collect_plan, frames_plan}
use Rattle.nr_spec_program.specs.Table.{plan_of}
use Rattle.nr_spec_program.specs.Command as command
use Rattle.nr_spec_program.specs.Causes.{Permits}
use Rattle.nr_laws_program.proofs.Phases.{allows_refusing, none_allows, none_refuses, refuses_refusing}
use Rattle.nr_laws_program.proofs.PlanKinds.{after_report, checked_each, concluded_each, evidence_each, frames_each, key_each, load_each, parts_refuse, promise_each, sized_each, well_formed_each}

-- ---- the refusals of each part of a plan

pub sized_refuses : (P : Refusal → Type 0) (input : Input) (answer : Option ℕ) → P (NoFile input) → ((found : ℕ) → P (Limit input found)) → Refuses P (sized input answer)
sized_refuses P input None none limit = none
sized_refuses P input (Some found) none limit = elim (cases_Bool (nat_le found (input_limit input))) [ inl is ↦ rw is tt | inr is ↦ rw is (limit found) ]

pub load_refuses : (P : Refusal → Type 0) (input : Input) (name : List ℕ) → P (NoFile input) → ((found : ℕ) → P (Limit input found)) → Refuses P (load input name)
unfolding load
load_refuses P input name none limit = refuses_followed P _ _ (λ answer. tt) (λ answer. refuses_followed P _ _ (sized_refuses P input answer none limit) (λ size. λ bytes. tt))

pub formed_refuses : {A : Type 0} (P : Refusal → Type 0) (input : Input) (found : Result A ℕ) → ((place : ℕ) → P (Malformed input place)) → Refuses P (well_formed input found)
formed_refuses P input (Ok value) malformed = tt
formed_refuses P input (Err place) malformed = malformed place

-- what goes on after a file that is in its grammar
formed_then_refuses : {A B : Type 0} (P : Refusal → Type 0) (input : Input) (found : Result A ℕ) (f : A → Work B) → ((place : ℕ) → P (Malformed input place)) → ((value : A) → found ≡ Ok value → Refuses P (f value)) → Refuses P (Room (well_formed input found) >>= f)
unfolding followed_by
formed_then_refuses P input (Ok value) f malformed next = next value refl
formed_then_refuses P input (Err place) f malformed next = malformed place

late_refuses : (P : Refusal → Type 0) (late : Option Late) (given : Result Report Fact) → ((fact : Fact) → P (command.Refused fact)) → ((late : Late) → P (command.LateStart late)) → Refuses P (concluded (with_late late given))
late_refuses P None (Ok report) fact_has late_has = tt
late_refuses P None (Err fact) fact_has late_has = fact_has fact
late_refuses P (Some late) (Ok report) fact_has late_has = late_has late
late_refuses P (Some late) (Err Form) fact_has late_has = fact_has Form
late_refuses P (Some late) (Err (Network found wanted)) fact_has late_has = fact_has (Network found wanted)
late_refuses P (Some late) (Err Unsigned) fact_has late_has = fact_has Unsigned
late_refuses P (Some late) (Err (Head head chain)) fact_has late_has = fact_has (Head head chain)
late_refuses P (Some late) (Err (Short head to)) fact_has late_has = fact_has (Short head to)
late_refuses P (Some late) (Err (Promise found file)) fact_has late_has = late_has late

-- an answer before which something stands isn't malformed any more
judged_refuses : (P : Refusal → Type 0) (root : List ℕ) (promise : PromiseFile) (answer : AnswerFile) (period : Period) (auths : List Authenticator) (base : Base) → base_by answer.body answer.entries ≡ Ok base
    → ((fact : Fact) → P (command.Refused fact)) → ((late : Late) → P (command.LateStart late)) → Refuses P (judged root promise answer period auths)
unfolding outcome_of
judged_refuses P root promise answer period auths base is fact_has late_has =
    subst (λ (b : Result Base slices.Refusal). Refuses P (concluded (outcome_by root (audited_by promise ∷ []) (meant (promise.says ∷ [])) answer period auths b))) (sym is)
    (late_refuses P (late_fact answer period) (outcome_over root (audited_by promise ∷ []) (meant (promise.says ∷ [])) base answer period auths) fact_has late_has)

saved_refuses : (P : TooLong → Type 0) (name : List ℕ) (e : EvidenceFile) → ((found : ℕ) → P (record { found = found })) → Refuses P (save_evidence name e)
unfolding save_evidence
saved_refuses P name e long =
    elim (cases_Bool (nat_lt most_evidence (length (evidence_file e)))) [
      | inl by ↦ rw by (long (length (evidence_file e)))
      | inr by ↦ rw by (none_refuses P (save_parts name (evidence_parts e)) (parts_refuse TooLong name (evidence_parts e)))
    ]

evidence_refuses : (P : Refusal → Type 0) (name : Option (List ℕ)) (e : EvidenceFile) → ((found : ℕ) → P (LongEvidence found)) → Refuses P (evidence_plan name e)
unfolding evidence_plan
evidence_refuses P None e long = tt
evidence_refuses P (Some n) e long = refuses_refusing P long_evidence (save_evidence n e) (saved_refuses (λ refusal. P (long_evidence refusal)) n e long)

checked_refuses : (P : Refusal → Type 0) (found : Result (List Bool) evidence.Refusal) → ((place : ℕ) → P (Malformed EvidenceInput place)) → ((fact : Fact) → P (command.Refused fact)) → Refuses P (checked found)
checked_refuses P (Ok claims) malformed fact_has = tt
checked_refuses P (Err (evidence.Malformed place)) malformed fact_has = malformed place
checked_refuses P (Err (evidence.Refused fact)) malformed fact_has = fact_has fact

-- ---- each part of a plan by itself

pub sized_allows : (allowed : Refusal → Action → Type 0) (input : Input) (answer : Option ℕ) → Allows allowed (sized input answer)
sized_allows allowed input None = tt
sized_allows allowed input (Some found) = elim (cases_Bool (nat_le found (input_limit input))) [ inl is ↦ rw is tt | inr is ↦ rw is tt ]

-- the file is asked for where it is absent or too long
pub load_allows : (allowed : Refusal → Action → Type 0) (input : Input) (name : List ℕ) → allowed (NoFile input) (Ask name) → ((found : ℕ) → allowed (Limit input found) (Ask name)) → Allows allowed (load input name)
unfolding load
load_allows allowed input name none limit =
    allows_followed allowed _ _ (λ answer. (tt, tt))
    ((λ answer. refuses_followed (λ r. allowed r (Ask name)) _ _ (sized_refuses (λ r. allowed r (Ask name)) input answer none limit) (λ size. λ bytes. tt)), λ answer. tt)
    (λ answer. allows_followed allowed _ _ (sized_allows allowed input answer) (sized_each _ input answer) (λ size. λ bytes. (tt, tt)))

pub formed_allows : {A : Type 0} (allowed : Refusal → Action → Type 0) (input : Input) (found : Result A ℕ) → Allows allowed (well_formed input found)
formed_allows allowed input (Ok value) = tt
formed_allows allowed input (Err place) = tt

-- what goes on after a file that is in its grammar
formed_then_allows : {A B : Type 0} (allowed : Refusal → Action → Type 0) (input : Input) (found : Result A ℕ) (f : A → Work B) → ((value : A) → found ≡ Ok value → Allows allowed (f value)) → Allows allowed (Room (well_formed input found) >>= f)
unfolding followed_by
formed_then_allows allowed input (Ok value) f next = next value refl
formed_then_allows allowed input (Err place) f next = tt

concluded_allows : (allowed : Refusal → Action → Type 0) (found : Result Report slices.Refusal) → Allows allowed (concluded found)
concluded_allows allowed (Ok report) = tt
concluded_allows allowed (Err (slices.Malformed place)) = tt
concluded_allows allowed (Err (slices.Refused fact)) = tt
concluded_allows allowed (Err (slices.Checkpoint late)) = tt

-- nothing refuses after the evidence is cut
saved_allows : (allowed : TooLong → Action → Type 0) (name : List ℕ) (e : EvidenceFile) → Allows allowed (save_evidence name e)
unfolding save_evidence
saved_allows allowed name e =
    elim (cases_Bool (nat_lt most_evidence (length (evidence_file e)))) [
      | inl by ↦ rw by tt
      | inr by ↦ rw by (none_allows allowed (save_parts name (evidence_parts e)) (parts_refuse TooLong name (evidence_parts e)))
    ]

evidence_allows : (allowed : Refusal → Action → Type 0) (name : Option (List ℕ)) (e : EvidenceFile) → Allows allowed (evidence_plan name e)
unfolding evidence_plan
evidence_allows allowed None e = tt
evidence_allows allowed (Some n) e = allows_refusing allowed long_evidence (save_evidence n e) (saved_allows (λ refusal action. allowed (long_evidence refusal) action) n e)

checked_allows : (allowed : Refusal → Action → Type 0) (found : Result (List Bool) evidence.Refusal) → Allows allowed (checked found)
checked_allows allowed (Ok claims) = tt
checked_allows allowed (Err (evidence.Malformed place)) = tt
checked_allows allowed (Err (evidence.Refused fact)) = tt

pub promise_allows : (allowed : Refusal → Action → Type 0) (name : List ℕ) → allowed (NoFile PromiseInput) (Ask name) → ((found : ℕ) → allowed (Limit PromiseInput found) (Ask name))
    → ((place : ℕ) → allowed (Malformed PromiseInput place) (Ask name)) → ((size place : ℕ) → allowed (Malformed PromiseInput place) (Read name size)) → Allows allowed (promise_plan name)
unfolding promise_plan
promise_allows allowed name none limit asked read =
    allows_followed allowed _ _ (load_allows allowed PromiseInput name none limit)
    (load_each _ PromiseInput name (record {
      ask = λ text. formed_refuses (λ r. allowed r (Ask name)) PromiseInput (promise_of text) asked;
      read = λ size. λ text. formed_refuses (λ r. allowed r (Read name size)) PromiseInput (promise_of text) (read size);
    }))
    (λ text. formed_allows allowed PromiseInput (promise_of text))

-- ---- the plans of requests

-- What the later refusals of an audit allow, from the authenticators' content on, from the answer's content on, and from the
-- answer on.
record OfAuths (P : Refusal → Type 0) : Type 0 where
  pub malformed : (place : ℕ) → P (Malformed AuthsInput place)
  pub fact : (fact : Fact) → P (command.Refused fact)
  pub late : (late : Late) → P (command.LateStart late)
  pub long : (found : ℕ) → P (LongEvidence found)

record OfContent (P : Refusal → Type 0) : Type 0 where
  pub malformed : (place : ℕ) → P (Malformed AnswerInput place)
  pub none : P (NoFile AuthsInput)
  pub limit : (found : ℕ) → P (Limit AuthsInput found)
  pub later : OfAuths P

record OfAnswer (P : Refusal → Type 0) : Type 0 where
  pub none : P (NoFile AnswerInput)
  pub limit : (found : ℕ) → P (Limit AnswerInput found)
  pub later : OfContent P

promise_asked : (q : AuditRequest) → OfAnswer (λ r. Permits (Audit q) r (Ask q.promise))
promise_asked q = record {
  none = inl refl;
  limit = λ found. inl refl;
  later = record { malformed = λ place. inl refl; none = inl refl; limit = λ found. inl refl; later = record { malformed = λ place. inl refl; fact = λ fact. inl refl; late = λ late. inl refl; long = λ found. inl refl } };
}

promise_read : (q : AuditRequest) (size : ℕ) → OfAnswer (λ r. Permits (Audit q) r (Read q.promise size))
promise_read q size = record {
  none = inl refl;
  limit = λ found. inl refl;
  later = record { malformed = λ place. inl refl; none = inl refl; limit = λ found. inl refl; later = record { malformed = λ place. inl refl; fact = λ fact. inl refl; late = λ late. inl refl; long = λ found. inl refl } };
}

answer_asked : (q : AuditRequest) → OfContent (λ r. Permits (Audit q) r (Ask q.answer))
answer_asked q = record { malformed = λ place. inr (inl refl); none = inr (inl refl); limit = λ found. inr (inl refl); later = record { malformed = λ place. inr (inl refl); fact = λ fact. inr (inl refl); late = λ late. inr (inl refl); long = λ found. inr (inl refl) } }

answer_read : (q : AuditRequest) (size : ℕ) → OfContent (λ r. Permits (Audit q) r (Read q.answer size))
answer_read q size = record { malformed = λ place. inr (inl refl); none = inr (inl refl); limit = λ found. inr (inl refl); later = record { malformed = λ place. inr (inl refl); fact = λ fact. inr (inl refl); late = λ late. inr (inl refl); long = λ found. inr (inl refl) } }

auths_asked : (q : AuditRequest) → OfAuths (λ r. Permits (Audit q) r (Ask q.auths))
auths_asked q = record { malformed = λ place. inr (inr (inl refl)); fact = λ fact. inr (inr (inl refl)); late = λ late. inr (inr (inl refl)); long = λ found. inr (inr (inl refl)) }

auths_read : (q : AuditRequest) (size : ℕ) → OfAuths (λ r. Permits (Audit q) r (Read q.auths size))
auths_read q size = record { malformed = λ place. inr (inr (inl refl)); fact = λ fact. inr (inr (inl refl)); late = λ late. inr (inr (inl refl)); long = λ found. inr (inr (inl refl)) }

pub audit_allows : (q : AuditRequest) → Allows (Permits (Audit q)) (plan_of (Audit q))
unfolding plan_of audit_plan
audit_allows q =
    allows_followed (Permits (Audit q)) _ _ (promise_allows (Permits (Audit q)) q.promise (inl refl) (λ found. inl refl) (λ place. inl refl) (λ size place. inl refl))
    (promise_each _ q.promise (record { ask = λ promise. on_answer promise _ (promise_asked q); read = λ size promise. on_answer promise _ (promise_read q size) }))
    (λ promise. allows_followed (Permits (Audit q)) _ _ (load_allows (Permits (Audit q)) AnswerInput q.answer (inr (inl refl)) (λ found. inr (inl refl)))
    (load_each _ AnswerInput q.answer (record { ask = λ bytes. on_content promise bytes _ (answer_asked q); read = λ size bytes. on_content promise bytes _ (answer_read q size) }))
    (λ answer_bytes. formed_then_allows (Permits (Audit q)) AnswerInput (slice_of answer_bytes) _
    (λ answer is. allows_followed (Permits (Audit q)) _ _ (load_allows (Permits (Audit q)) AuthsInput q.auths (inr (inr (inl refl))) (λ found. inr (inr (inl refl))))
    (load_each _ AuthsInput q.auths (record { ask = λ bytes. on_auths promise answer_bytes answer is bytes _ (auths_asked q); read = λ size bytes. on_auths promise answer_bytes answer is bytes _ (auths_read q size) }))
    (λ auths_bytes. allows_followed (Permits (Audit q)) _ _ (formed_allows (Permits (Audit q)) AuthsInput (auths_of auths_bytes)) (well_formed_each _ AuthsInput (auths_of auths_bytes)) (λ auths.
    allows_followed (Permits (Audit q)) (Room (judged q.root promise answer q.period auths)) _ (concluded_allows (Permits (Audit q)) _) (concluded_each _ _)
    (λ report. allows_followed (Permits (Audit q)) want _ tt tt
    (λ room. allows_followed (Permits (Audit q)) (evidence_plan q.evidence _) _ (evidence_allows (Permits (Audit q)) q.evidence _) (evidence_each _ q.evidence _ (λ n is. record { cut = λ saved. tt; write = λ at bytes saved. tt; sync = λ saved. tt })) (λ saved. tt))))))))
  where
    on_auths : (promise : PromiseFile) (answer_bytes : List ℕ) (answer : AnswerFile) → slice_of answer_bytes ≡ Ok answer → (bytes : List ℕ) (P : Refusal → Type 0) → OfAuths P
        → Refuses P (well_formed AuthsInput (auths_of bytes) >>= λ auths. Room (judged q.root promise answer q.period auths) >>= after_report q answer_bytes promise)
    on_auths promise answer_bytes answer is bytes P of =
        let s = sliced answer_bytes answer is in
        refuses_followed P _ _ (formed_refuses P AuthsInput (auths_of bytes) of.malformed)
        (λ auths. refuses_followed P (Room (judged q.root promise answer q.period auths)) _ (judged_refuses P q.root promise answer q.period auths s.base s.based of.fact of.late)
        (λ report. refuses_followed P want _ tt
        (λ room. refuses_followed P (evidence_plan q.evidence _) _ (evidence_refuses P q.evidence _ of.long) (λ saved. tt))))

    on_content : (promise : PromiseFile) (bytes : List ℕ) (P : Refusal → Type 0) → OfContent P
        → Refuses P (Room (well_formed AnswerInput (slice_of bytes)) >>= λ answer. load AuthsInput q.auths >>= λ auths_bytes. well_formed AuthsInput (auths_of auths_bytes) >>= λ auths. Room (judged q.root promise answer q.period auths) >>= after_report q bytes promise)
    on_content promise bytes P of =
        formed_then_refuses P AnswerInput (slice_of bytes) _ of.malformed
        (λ answer is. refuses_followed P _ _ (load_refuses P AuthsInput q.auths of.none of.limit) (λ auths_bytes. on_auths promise bytes answer is auths_bytes P of.later))

    on_answer : (promise : PromiseFile) (P : Refusal → Type 0) → OfAnswer P
        → Refuses P (load AnswerInput q.answer >>= λ bytes. Room (well_formed AnswerInput (slice_of bytes)) >>= λ answer. load AuthsInput q.auths >>= λ auths_bytes. well_formed AuthsInput (auths_of auths_bytes) >>= λ auths. Room (judged q.root promise answer q.period auths) >>= after_report q bytes promise)
    on_answer promise P of = refuses_followed P _ _ (load_refuses P AnswerInput q.answer of.none of.limit) (λ bytes. on_content promise bytes P of.later)

-- ---- the other requests

pub check_allows : (q : CheckRequest) → Allows (Permits (Check q)) (plan_of (Check q))
unfolding plan_of check_plan
check_allows q =
    allows_followed (Permits (Check q)) _ _ (promise_allows (Permits (Check q)) q.promise (inl refl) (λ found. inl refl) (λ place. inl refl) (λ size place. inl refl))
    (promise_each _ q.promise (record {
      ask = λ promise. refuses_followed (λ r. Permits (Check q) r (Ask q.promise)) want _ tt (λ room. tt);
      read = λ size promise. refuses_followed (λ r. Permits (Check q) r (Read q.promise size)) want _ tt (λ room. tt);
    }))
    (λ promise. allows_followed (Permits (Check q)) want _ tt tt (λ room. tt))

pub verify_allows : (q : VerifyRequest) → Allows (Permits (Verify q)) (plan_of (Verify q))
unfolding plan_of verify_plan
verify_allows q =
    allows_followed (Permits (Verify q)) _ _ (load_allows (Permits (Verify q)) EvidenceInput q.evidence (inl refl) (λ found. inl refl))
    (load_each _ EvidenceInput q.evidence (record {
      ask = λ bytes. on_claims bytes (λ r. Permits (Verify q) r (Ask q.evidence)) (λ place. inl refl) (λ fact. inl refl);
      read = λ size bytes. on_claims bytes (λ r. Permits (Verify q) r (Read q.evidence size)) (λ place. inl refl) (λ fact. inl refl);
    }))
    (λ bytes. allows_followed (Permits (Verify q)) (Room (checked (verified q.root bytes))) _ (checked_allows (Permits (Verify q)) _) (checked_each _ _)
    (λ claims. allows_followed (Permits (Verify q)) want _ tt tt (λ room. tt)))
  where
    on_claims : (bytes : List ℕ) (P : Refusal → Type 0) → ((place : ℕ) → P (Malformed EvidenceInput place)) → ((fact : Fact) → P (command.Refused fact))
        → Refuses P (Room (checked (verified q.root bytes)) >>= λ claims. want >>= λ room. Done (verified_ending claims))
    on_claims bytes P malformed fact_has = refuses_followed P (Room (checked (verified q.root bytes))) _ (checked_refuses P _ malformed fact_has) (λ claims. refuses_followed P want _ tt (λ room. tt))

key_allows : (q : KeygenRequest) → Allows (Permits (Keygen q)) (key_plan q)
unfolding key_plan
key_allows q =
    allows_followed (Permits (Keygen q)) _ _ (load_allows (Permits (Keygen q)) SeedInput q.seed (inl refl) (λ found. inl refl))
    (load_each _ SeedInput q.seed (record {
      ask = λ bytes. refuses_followed (λ r. Permits (Keygen q) r (Ask q.seed)) _ _ (formed_refuses (λ r. Permits (Keygen q) r (Ask q.seed)) SeedInput (seed_of bytes) (λ place. inl refl)) (λ seed. tt);
      read = λ size bytes. refuses_followed (λ r. Permits (Keygen q) r (Read q.seed size)) _ _ (formed_refuses (λ r. Permits (Keygen q) r (Read q.seed size)) SeedInput (seed_of bytes) (λ place. inl refl)) (λ seed. tt);
    }))
    (λ bytes. allows_followed (Permits (Keygen q)) _ _ (formed_allows (Permits (Keygen q)) SeedInput (seed_of bytes)) (well_formed_each _ SeedInput (seed_of bytes)) (λ seed. tt))

-- nothing refuses after the key is there
pub keygen_allows : (q : KeygenRequest) → Allows (Permits (Keygen q)) (plan_of (Keygen q))
unfolding plan_of keygen_plan save followed_by
keygen_allows q =
    allows_followed (Permits (Keygen q)) (key_plan q) _ (key_allows q) (key_each _ q (record { ask = λ key. λ a b c. tt; read = λ size. λ key. λ a b c. tt })) (λ key. λ a. (λ b c. tt, λ b. (λ c. tt, λ c. (tt, tt))))

frames_allows : (q : CollectRequest) → Allows (Permits (Collect q)) (frames_plan q)
unfolding frames_plan
frames_allows q =
    allows_followed (Permits (Collect q)) _ _ (load_allows (Permits (Collect q)) FramesInput q.frames (inl refl) (λ found. inl refl))
    (load_each _ FramesInput q.frames (record {
      ask = λ bytes. formed_refuses (λ r. Permits (Collect q) r (Ask q.frames)) FramesInput (frames_of bytes) (λ place. inl refl);
      read = λ size bytes. formed_refuses (λ r. Permits (Collect q) r (Read q.frames size)) FramesInput (frames_of bytes) (λ place. inl refl);
    }))
    (λ bytes. formed_allows (Permits (Collect q)) FramesInput (frames_of bytes))

-- nothing refuses after the frames are there
pub collect_allows : (q : CollectRequest) → Allows (Permits (Collect q)) (plan_of (Collect q))
unfolding plan_of collect_plan save followed_by
collect_allows q =
    allows_followed (Permits (Collect q)) (frames_plan q) _ (frames_allows q) (frames_each _ q (record { ask = λ frames. λ a b c. tt; read = λ size. λ frames. λ a b c. tt })) (λ frames. λ a. (λ b c. tt, λ b. (λ c. tt, λ c. (tt, tt))))
