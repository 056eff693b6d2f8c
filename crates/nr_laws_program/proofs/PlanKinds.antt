-- What kinds of steps this program's plans have, and where they end.
use Rattle.std.proofs.Common.{◌≡◌, ◌≢◌, ℕ, zero, suc, ◌+◌, ◌≤◌, length, List, [], ◌∷◌, Option, Some, None, Result, Ok, Err, refl, sym, ap, inl, inr, ◌⊎◌, arith}
use Rattle.std.specs.Prelude.{Bool, nat_le, nat_lt, not}
use Rattle.std.specs.List.{list_any}
use Rattle.std.proofs.lemmas.Bool.{cases_Bool}
use Rattle.nr_spec_plans.specs.Plans.{◌>>=◌, Done, Room, followed_by, want, save, Action, Ask, Read, Cut, Write, Sync}
use Rattle.nr_spec_plans.specs.Laws.{Each, Ends}
use Rattle.nr_spec_plans.specs.Order.{Refuses}
use Rattle.nr_spec_plans.proofs.PlanLaws.{each_followed, ends_followed}
use Rattle.nr_spec_saving.specs.Saving.{TooLong, evidence_parts, save_evidence, save_parts, write_parts}
use Rattle.nr_laws_saving.proofs.PartLaws.{save_each}
use Rattle.nr_spec_verify.specs.Verified as evidence
use Rattle.nr_spec_verify.specs.Verified.{verified}
use Rattle.nr_spec_log.specs.Authenticator.{Authenticator, auths_of}
use Rattle.nr_spec_log.specs.Answer.{AnswerFile}
use Rattle.nr_spec_slices.specs.Reading.{slice_of}
use Rattle.nr_spec_slices.specs.Audits as slices
use Rattle.nr_spec_slices.specs.Audits.{outcome_of}
use Rattle.nr_spec_history.specs.KeyFiles.{seed_of}
use Rattle.nr_spec_report.specs.Claims.{Claim}
use Rattle.nr_spec_evidence.specs.Evidence.{EvidenceFile, evidence_file, most_evidence}
use Rattle.nr_spec_outcome.specs.Report.{Report, claims_of}
use Rattle.nr_spec_promises.specs.Files.{PromiseFile}
use Rattle.nr_spec_outcome.specs.Outcome.{Fact, promise_files}
use Rattle.nr_spec_truth.specs.Truths.{meant}
use Rattle.nr_spec_texts.specs.Promises as program
use Rattle.nr_spec_texts.specs.Promises.{promise_of, audited_by}
use Rattle.nr_spec_commands.specs.Words.{AuditRequest, CheckRequest, CollectRequest, KeygenRequest, VerifyRequest, Request, Answer, Audit, Check, Collect, Keygen, Record, Verify}
use Rattle.nr_spec_program.specs.Command.{Input, Work, Ending, Refusal, NoFile, Limit, Malformed, LateStart, Prevented, refusal_ending, load, sized, well_formed, LongEvidence, AnswerInput, audit_ending, evidence_of_report, evidence_plan, long_evidence, concluded, judged, promise_plan, check_plan, audit_plan, key_plan, keygen_plan, input_limit, promise_ending, report_ending, report_status, key_ending}
use Rattle.nr_spec_program.specs.Recording.{answer_plan, answered_ending, record_plan, recorded_ending}
use Rattle.nr_spec_program.specs.Verifying.{checked, verified_ending, verify_plan}
use Rattle.nr_spec_frames.specs.Frames.{frames_of}
use Rattle.nr_spec_program.specs.Collecting.{collect_plan, collected_ending, frames_plan}
use Rattle.nr_spec_program.specs.Table.{plan_of}
use Rattle.nr_spec_program.specs.Causes.{EndOf}
use Rattle.nr_spec_program.specs.Command as command
use Rattle.nr_laws_program.proofs.Phases.{each_refusing}

-- ---- steps of one kind

-- The steps that read a file in whole are of this kind.
pub record KindReads (kind : Action → Type 0) (name : List ℕ) : Type 0 where
  pub ask : kind (Ask name)
  pub read : (size : ℕ) → kind (Read name size)

pub sized_each : (kind : Action → Type 0) (input : Input) (answer : Option ℕ) → Each kind (sized input answer)
sized_each kind input None = tt
sized_each kind input (Some found) = elim (cases_Bool (nat_le found (input_limit input))) [ inl is ↦ rw is tt | inr is ↦ rw is tt ]

pub load_each : (kind : Action → Type 0) (input : Input) (name : List ℕ) → KindReads kind name → Each kind (load input name)
unfolding load
load_each kind input name is =
    each_followed kind _ _ (is.ask, λ answer. tt) (λ answer. each_followed kind _ _ (sized_each kind input answer) (λ size. (is.read size, λ bytes. tt)))

pub well_formed_each : {A : Type 0} (kind : Action → Type 0) (input : Input) (found : Result A ℕ) → Each kind (well_formed input found)
well_formed_each kind input (Ok value) = tt
well_formed_each kind input (Err place) = tt

pub concluded_each : (kind : Action → Type 0) (found : Result Report slices.Refusal) → Each kind (concluded found)
concluded_each kind (Ok report) = tt
concluded_each kind (Err (slices.Malformed place)) = tt
concluded_each kind (Err (slices.Refused fact)) = tt
concluded_each kind (Err (slices.Checkpoint late)) = tt

-- The steps that write a file in pieces are of this kind.
pub record KindWrites (kind : Action → Type 0) (name : List ℕ) : Type 0 where
  pub cut : kind (Cut name 0)
  pub write : (at : ℕ) (bytes : List ℕ) → kind (Write name at bytes)
  pub sync : kind (Sync name)

pub parts_each : (E : Type 0) (kind : Action → Type 0) (name : List ℕ) → KindWrites kind name → (e : EvidenceFile) → Each kind (save_parts {E = E} name (evidence_parts e))
parts_each E kind name is e = save_each E kind name (evidence_parts e) is.cut (λ at part less. is.write at part) is.sync

-- pieces that are saved refuse nothing
write_refuses : (E : Type 0) (name : List ℕ) (at : ℕ) (parts : List (List ℕ)) → Refuses {E = E} (λ refusal. ⊥) (write_parts name at parts)
unfolding write_parts followed_by
write_refuses E name at [] = λ a. tt
write_refuses E name at (part ∷ others) = λ a. write_refuses E name (at + length part) others

pub parts_refuse : (E : Type 0) (name : List ℕ) (parts : List (List ℕ)) → Refuses {E = E} (λ refusal. ⊥) (save_parts name parts)
unfolding save_parts followed_by
parts_refuse E name parts = λ a. write_refuses E name 0 parts

saved_each : (kind : Action → Type 0) (name : List ℕ) → KindWrites kind name → (e : EvidenceFile) → Each kind (save_evidence name e)
unfolding save_evidence
saved_each kind name is e = elim (cases_Bool (nat_lt most_evidence (length (evidence_file e)))) [ inl by ↦ rw by tt | inr by ↦ rw by (parts_each TooLong kind name is e) ]

pub evidence_each : (kind : Action → Type 0) (name : Option (List ℕ)) (e : EvidenceFile) → ((n : List ℕ) → name ≡ Some n → KindWrites kind n) → Each kind (evidence_plan name e)
unfolding evidence_plan
evidence_each kind None e is = tt
evidence_each kind (Some n) e is = each_refusing kind long_evidence (save_evidence n e) (saved_each kind n (is n refl) e)

pub checked_each : (kind : Action → Type 0) (found : Result (List Bool) evidence.Refusal) → Each kind (checked found)
checked_each kind (Ok claims) = tt
checked_each kind (Err (evidence.Malformed place)) = tt
checked_each kind (Err (evidence.Refused fact)) = tt

pub promise_each : (kind : Action → Type 0) (name : List ℕ) → KindReads kind name → Each kind (promise_plan name)
unfolding promise_plan
promise_each kind name is = each_followed kind _ _ (load_each kind _ name is) (λ text. well_formed_each kind _ (promise_of text))

pub check_each : (kind : Action → Type 0) (q : CheckRequest) → KindReads kind q.promise → Each kind (plan_of (Check q))
unfolding plan_of check_plan
check_each kind q is = each_followed kind _ _ (promise_each kind q.promise is) (λ promise. each_followed kind want _ tt (λ room. tt))

pub audit_each : (kind : Action → Type 0) (q : AuditRequest) → KindReads kind q.promise → KindReads kind q.answer → KindReads kind q.auths → ((n : List ℕ) → q.evidence ≡ Some n → KindWrites kind n) → Each kind (plan_of (Audit q))
unfolding plan_of audit_plan
audit_each kind q promise answer auths evidence =
    each_followed kind _ _ (promise_each kind q.promise promise) (λ promise.
    each_followed kind _ _ (load_each kind _ q.answer answer) (λ answer_bytes.
    each_followed kind (Room (well_formed AnswerInput (slice_of answer_bytes))) _ (well_formed_each kind _ (slice_of answer_bytes)) (λ answer.
    each_followed kind _ _ (load_each kind _ q.auths auths) (λ auths_bytes.
    each_followed kind _ _ (well_formed_each kind _ (auths_of auths_bytes)) (λ auths.
    each_followed kind (Room (judged q.root promise answer q.period auths)) _ (concluded_each kind _) (λ report.
    each_followed kind want _ tt (λ room.
    each_followed kind _ _ (evidence_each kind q.evidence _ evidence) (λ saved. tt))))))))

pub verify_each : (kind : Action → Type 0) (q : VerifyRequest) → KindReads kind q.evidence → Each kind (plan_of (Verify q))
unfolding plan_of verify_plan
verify_each kind q is =
    each_followed kind _ _ (load_each kind _ q.evidence is) (λ bytes.
    each_followed kind (Room (checked (verified q.root bytes))) _ (checked_each kind _) (λ claims.
    each_followed kind want _ tt (λ room. tt)))

pub key_each : (kind : Action → Type 0) (q : KeygenRequest) → KindReads kind q.seed → Each kind (key_plan q)
unfolding key_plan
key_each kind q is = each_followed kind _ _ (load_each kind _ q.seed is) (λ bytes. each_followed kind _ _ (well_formed_each kind _ (seed_of bytes)) (λ seed. tt))

pub keygen_each : (kind : Action → Type 0) (q : KeygenRequest) → KindReads kind q.seed → kind (Cut q.key 0) → ((bytes : List ℕ) → kind (Write q.key 0 bytes)) → kind (Sync q.key) → Each kind (plan_of (Keygen q))
unfolding plan_of keygen_plan save followed_by
keygen_each kind q is cut write sync = each_followed kind (key_plan q) _ (key_each kind q is) (λ key. (cut, λ a. (write _, λ b. (sync, λ c. tt))))

pub frames_each : (kind : Action → Type 0) (q : CollectRequest) → KindReads kind q.frames → Each kind (frames_plan q)
unfolding frames_plan
frames_each kind q is = each_followed kind _ _ (load_each kind _ q.frames is) (λ bytes. well_formed_each kind _ (frames_of bytes))

pub collect_each : (kind : Action → Type 0) (q : CollectRequest) → KindReads kind q.frames → kind (Cut q.out 0) → ((bytes : List ℕ) → kind (Write q.out 0 bytes)) → kind (Sync q.out) → Each kind (plan_of (Collect q))
unfolding plan_of collect_plan save followed_by
collect_each kind q is cut write sync = each_followed kind (frames_plan q) _ (frames_each kind q is) (λ frames. (cut, λ a. (write _, λ b. (sync, λ c. tt))))

-- ---- endings

-- what an audit does after its report
abbrev pub after_report : AuditRequest → (answer : List ℕ) → program.PromiseFile → Report → Work Ending
after_report q answer promise report = want >>= λ room. evidence_plan q.evidence (evidence_of_report answer promise q.period report) >>= λ saved. Done (audit_ending promise report)

audit_ends : (q : AuditRequest) (bytes : List ℕ) (promise : program.PromiseFile) (answer : AnswerFile) (auths : List Authenticator) (found : Result Report slices.Refusal)
    → found ≡ outcome_of q.root (audited_by promise ∷ []) (meant (promise.says ∷ [])) answer q.period auths
    → Ends (EndOf (Audit q)) (Room (concluded found) >>= after_report q bytes promise)
unfolding followed_by
audit_ends q bytes promise answer auths (Ok report) is =
    let so : EndOf (Audit q) (audit_ending promise report) = (promise, answer, auths, report, ap concluded (sym is), refl) in
    ends_followed (EndOf (Audit q)) (evidence_plan q.evidence (evidence_of_report bytes promise q.period report)) (λ saved. Done (audit_ending promise report)) (λ saved. so)
audit_ends q bytes promise answer auths (Err (slices.Malformed place)) is = tt
audit_ends q bytes promise answer auths (Err (slices.Refused fact)) is = tt
audit_ends q bytes promise answer auths (Err (slices.Checkpoint late)) is = tt

verify_ends : (q : VerifyRequest) (bytes : List ℕ) (found : Result (List Bool) evidence.Refusal) → found ≡ verified q.root bytes
    → Ends (EndOf (Verify q)) (Room (checked found) >>= λ claims. want >>= λ room. Done (verified_ending claims))
unfolding followed_by
verify_ends q bytes (Ok claims) is = (bytes, claims, sym is, refl)
verify_ends q bytes (Err (evidence.Malformed place)) is = tt
verify_ends q bytes (Err (evidence.Refused fact)) is = tt

pub request_ends : (request : Request) → Ends (EndOf request) (plan_of request)
unfolding plan_of check_plan audit_plan keygen_plan record_plan answer_plan verify_plan collect_plan
request_ends (Check q) = ends_followed (EndOf (Check q)) _ _ (λ promise. ends_followed (EndOf (Check q)) want _ (λ room. (promise, refl)))
request_ends (Audit q) =
    ends_followed (EndOf (Audit q)) _ _ (λ promise. ends_followed (EndOf (Audit q)) _ _ (λ answer_bytes. ends_followed (EndOf (Audit q)) _ _ (λ answer. ends_followed (EndOf (Audit q)) _ _ (λ auths_bytes. ends_followed (EndOf (Audit q)) _ _ (λ auths. audit_ends q answer_bytes promise answer auths _ refl)))))
request_ends (Keygen q) = ends_followed (EndOf (Keygen q)) _ _ (λ key. ends_followed (EndOf (Keygen q)) want _ (λ room. ends_followed (EndOf (Keygen q)) _ _ (λ done. (key, refl))))
request_ends (Record q) =
    ends_followed (EndOf (Record q)) _ _ (λ promise. ends_followed (EndOf (Record q)) _ _ (λ key. ends_followed (EndOf (Record q)) want _ (λ room. ends_followed (EndOf (Record q)) _ _ (λ files. ends_followed (EndOf (Record q)) _ _ (λ found.
    ends_followed (EndOf (Record q)) _ _ (λ key_network. ends_followed (EndOf (Record q)) _ _ (λ network. ends_followed (EndOf (Record q)) want _ (λ tree. ends_followed (EndOf (Record q)) _ _ (λ root. ends_followed (EndOf (Record q)) want _ (λ ready.
    ends_followed (EndOf (Record q)) _ _ (λ fits. ends_followed (EndOf (Record q)) _ _ (λ log. ends_followed (EndOf (Record q)) _ _ (λ longer. ends_followed (EndOf (Record q)) want _ (λ told. (log, longer, (_, refl))))))))))))))))
request_ends (Answer q) =
    ends_followed (EndOf (Answer q)) _ _ (λ key. ends_followed (EndOf (Answer q)) _ _ (λ size. ends_followed (EndOf (Answer q)) _ _ (λ there. ends_followed (EndOf (Answer q)) _ _ (λ found.
    ends_followed (EndOf (Answer q)) _ _ (λ network. ends_followed (EndOf (Answer q)) want _ (λ tree. ends_followed (EndOf (Answer q)) _ _ (λ root. ends_followed (EndOf (Answer q)) want _ (λ ready.
    ends_followed (EndOf (Answer q)) _ _ (λ answer. ends_followed (EndOf (Answer q)) _ _ (λ bytes. ends_followed (EndOf (Answer q)) want _ (λ room. ends_followed (EndOf (Answer q)) _ _ (λ saved. (answer, refl)))))))))))))
request_ends (Verify q) = ends_followed (EndOf (Verify q)) _ _ (λ bytes. verify_ends q bytes _ refl)
request_ends (Collect q) = ends_followed (EndOf (Collect q)) _ _ (λ frames. ends_followed (EndOf (Collect q)) want _ (λ room. ends_followed (EndOf (Collect q)) _ _ (λ saved. (frames, refl))))

-- the statuses of endings
claims_low : (claims : List Claim) → report_status claims ≤ 1
claims_low [] = omega arith
claims_low (first ∷ others) = omega arith

report_low : (promises : List PromiseFile) (report : Report) → (report_ending promises report).status ≤ 1
unfolding report_ending
report_low promises report = claims_low (claims_of report)

verified_low : (claims : List Bool) → (verified_ending claims).status ≤ 1
unfolding verified_ending
verified_low claims = elim (cases_Bool (list_any not claims)) [ inl by ↦ rw by (omega arith) | inr by ↦ rw by (omega arith) ]

pub ends_low : (request : Request) (e : Ending) → EndOf request e → e.status ≤ 1
unfolding promise_ending key_ending recorded_ending answered_ending collected_ending
ends_low (Audit q) e (promise, answer, auths, report, is, ends) = rw ends (report_low (promise_files (audited_by promise ∷ [])) report)
ends_low (Keygen q) e (key, is) = rw is (omega arith)
ends_low (Check q) e (promise, is) = rw is (omega arith)
ends_low (Record q) e (before, after, (skips, is)) = rw is (omega arith)
ends_low (Answer q) e (answer, is) = rw is (omega arith)
ends_low (Verify q) e (bytes, claims, is, ends) = rw ends (verified_low claims)
ends_low (Collect q) e (frames, is) = rw is (omega arith)

pub refusal_status : (refusal : Refusal) → ((refusal_ending refusal).status ≡ 3) ⊎ ((refusal_ending refusal).status ≡ 7)
unfolding refusal_ending
refusal_status (NoFile input) = inr refl
refusal_status (Limit input found) = inr refl
refusal_status (Malformed input place) = inl refl
refusal_status (command.Refused fact) = inr refl
refusal_status (LateStart late) = inr refl
refusal_status (Prevented fact) = inr refl
refusal_status (LongEvidence found) = inr refl

pub neither : (n : ℕ) → n ≤ 1 → n ≢ 0 → n ≢ 1 → ⊥
neither zero low none one = none refl
neither (suc zero) low none one = one refl
neither (suc (suc n)) low none one = omega arith
