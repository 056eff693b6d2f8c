-- What a verifier answers, step by step.
use Rattle.std.proofs.Common.{◌≡◌, ℕ, ◌≤◌, Bool, true, false, cond, nat_le, List, [], ◌∷◌, map, Result, Ok, Err, refl, ap, ◌∙◌}
use Rattle.std.proofs.lemmas.Bool.{le-leb, leb-true}
use Rattle.nr_spec_wire.specs.Reading.{◌>>=◌}
use Rattle.nr_spec_log.specs.Authenticator.{Authenticator}
use Rattle.nr_spec_log.specs.Answer.{AnswerFile, answer_of}
use Rattle.nr_spec_history.specs.Conflicts.{Period}
use Rattle.nr_spec_truth.specs.Truths.{Truth, meant}
use Rattle.nr_spec_report.specs.Claims.{Claim}
use Rattle.nr_spec_outcome.specs.Report.{Report, claims_of}
use Rattle.nr_spec_outcome.specs.Outcome.{Audited, Fact, outcome}
use Rattle.nr_spec_claims.specs.Claims.{judged}
use Rattle.nr_spec_evidence.specs.Evidence.{EvidenceFile, answer_offset, evidence_file, evidence_of, promise_offset, to_offset}
use Rattle.nr_spec_texts.specs.Promises.{PromiseFile, audited_by, promise_of}
use Rattle.nr_spec_verify.specs.Verified.{Malformed, Refusal, by_facts, ordered, read_from, verified}
use Rattle.nr_laws_verify.specs.Audits.{Audit, HasBytes, HasRoom, Reports, evidence_of_report}

-- ---- steps that go well

abbrev pub fine : {A E : Type 0} → A → Result A E
fine x = Ok x

pub ok_same : {A E : Type 0} (x y : A) → fine {E = E} x ≡ fine y → x ≡ y
ok_same x y e = cc

goes_on : {A B E : Type 0} (r : Result A E) (x : A) (f : A → Result B E) (y : Result B E) → r ≡ Ok x → f x ≡ y → (r >>= f) ≡ y
goes_on r x f y e h = ap (λ (s : Result _ _). s >>= f) e ∙ h

pub went_on : {A B E : Type 0} (r : Result A E) (f : A → Result B E) (y : B) → (r >>= f) ≡ Ok y → (x : A) × (r ≡ Ok x) × (f x ≡ Ok y)
went_on (Ok x) f y e = (x, refl, e)
went_on (Err fault) f y e = absurd cc

pub was_read : {A : Type 0} (offset : ℕ) (r : Result A ℕ) (x : A) → read_from offset r ≡ Ok x → r ≡ Ok x
was_read offset (Ok value) x e = ap (λ y. fine y) (ok_same {E = Refusal} value x e)
was_read offset (Err place) x e = absurd cc

pub was_fact : {A : Type 0} (r : Result A Fact) (x : A) → by_facts r ≡ Ok x → r ≡ Ok x
was_fact (Ok value) x e = ap (λ y. fine y) (ok_same {E = Refusal} value x e)
was_fact (Err fact) x e = absurd cc

in_order : (e : EvidenceFile) → e.period.from ≤ e.period.to → ordered e ≡ Ok tt
in_order e le = ap (λ (b : Bool). cond b (fine tt) (Err (Malformed (to_offset e.answer e.promise)))) (le-leb _ _ le)

ordered_by : (test : Bool) (place : ℕ) (u : Unit {0}) → cond test (fine tt) (Err (Malformed place)) ≡ Ok u → test ≡ true
ordered_by true place u e = refl
ordered_by false place u e = absurd cc

pub was_in_order : (e : EvidenceFile) (u : Unit {0}) → ordered e ≡ Ok u → e.period.from ≤ e.period.to
was_in_order e u h = leb-true _ _ (ordered_by (nat_le e.period.from e.period.to) (to_offset e.answer e.promise) u h)

-- ---- all steps

abbrev pub judgement : List ℕ → PromiseFile → AnswerFile → EvidenceFile → Result (List Bool) Fact
judgement root promise answer e = judged root (audited_by promise ∷ []) (meant (promise.says ∷ [])) answer e.period e.claims

pub all_steps : (root bytes : List ℕ) (e : EvidenceFile) (answer : AnswerFile) (promise : PromiseFile) (values : List Bool) → evidence_of bytes ≡ Ok e → answer_of e.answer ≡ Ok answer
    → promise_of e.promise ≡ Ok promise → e.period.from ≤ e.period.to → judgement root promise answer e ≡ Ok values → verified root bytes ≡ Ok values
unfolding verified
all_steps root bytes e answer promise values r1 r2 r3 r4 r5 =
    goes_on _ e _ (Ok values) (ap (read_from 0) r1) (goes_on _ answer _ (Ok values) (ap (read_from answer_offset) r2) (goes_on _ promise _ (Ok values) (ap (read_from (promise_offset e.answer)) r3)
    (goes_on _ tt _ (Ok values) (in_order e r4) (ap by_facts r5))))

abbrev pub AuditsAreAccepted : Type 0
AuditsAreAccepted = (root : List ℕ) (files : List Audited) (truth : Truth) (answer : AnswerFile) (period : Period) (auths : List Authenticator) (report : Report)
    → outcome root files truth answer period auths ≡ Ok report → judged root files truth answer period (claims_of report) ≡ Ok (map (λ (claim : Claim). true) (claims_of report))

abbrev pub ReadsBack : Type 0
ReadsBack = (audit : Audit) (report : Report) → HasBytes audit → Reports audit report → HasRoom audit report
    → evidence_of (evidence_file (evidence_of_report audit report)) ≡ Ok (evidence_of_report audit report)

pub accepted : ReadsBack → AuditsAreAccepted → (audit : Audit) (report : Report) → HasBytes audit → Reports audit report → HasRoom audit report → audit.period.from ≤ audit.period.to
    → verified audit.root (evidence_file (evidence_of_report audit report)) ≡ Ok (map (λ (claim : Claim). true) (claims_of report))
accepted back law audit report has r room order =
    let e = evidence_of_report audit report in
    all_steps audit.root (evidence_file e) e r.answer r.promise (map (λ (claim : Claim). true) (claims_of report)) (back audit report has r room) r.answer_reads r.promise_reads order
    (law audit.root (audited_by r.promise ∷ []) (meant (r.promise.says ∷ [])) r.answer audit.period r.auths report r.outcome_is)
