-- What an audit gets of the files.
use Rattle.std.proofs.Common.{◌≡◌, ℕ, ◌≤◌, length, List, [], Option, Some, None, Result, Ok, Err, refl, sym, ap, subst, ◌∙◌, inl, inr}
use Rattle.std.specs.Prelude.{nat_le, option_map}
use Rattle.std.proofs.lemmas.Bool.{cases_Bool, leb-true}
use Rattle.nr_spec_plans.specs.Disk.{Contents, Disk, Told, bytes_of}
use Rattle.nr_spec_plans.specs.Plans.{Read, Room, Runs, act, followed_by}
use Rattle.nr_spec_plans.specs.Laws.{outcome}
use Rattle.nr_spec_plans.proofs.PlanLaws.{gives_outcome}
use Rattle.nr_spec_log.specs.Authenticator.{auths_of}
use Rattle.nr_spec_slices.specs.Reading.{slice_of}
use Rattle.nr_spec_slices.specs.Audits as slices
use Rattle.nr_spec_outcome.specs.Report.{Report}
use Rattle.nr_spec_texts.specs.Promises.{PromiseFile, promise_of}
use Rattle.nr_spec_commands.specs.Words.{AuditRequest}
use Rattle.nr_spec_program.specs.Command.{AnswerInput, AuthsInput, Input, PromiseInput, concluded, input_limit, judged, load, promise_plan, sized, well_formed}
use Rattle.nr_spec_program.specs.Causes.{Reported, reported_plan}
use Rattle.nr_laws_program.proofs.Outcomes.{apart, formed_gives, load_gives, sized_gives}
use Rattle.nr_laws_program.proofs.AuditLaws.{evidence_for}
use Rattle.nr_laws_verify.specs.Audits.{evidence_of_report}
use Rattle.nr_laws_verify.proofs.Named.{text_kept}
use Rattle.nr_laws_handed.specs.Handed.{Shows, audit_of}
use Rattle.nr_laws_handed.proofs.Parts.{reported_each}

-- ---- files within their limits

sized_fits : (held : Contents) (input : Input) (size : Option ℕ) (n : ℕ) → outcome held (sized input size) ≡ Ok n → n ≤ input_limit input
sized_fits held input None n is = absurd cc
sized_fits held input (Some found) n is = elim (cases_Bool (nat_le found (input_limit input))) [
  | inl by ↦ (let e : found ≡ n = (let got = rw by at is in cc) in subst (λ (m : ℕ). m ≤ input_limit input) e (leb-true found (input_limit input) by))
  | inr by ↦ absurd (let got = rw by at is in cc)
]

counted : (file : Option (List ℕ)) (n : ℕ) → option_map length file ≡ Some n → n ≡ length (bytes_of file)
counted None n is = absurd cc
counted (Some bytes) n is = cc

load_fits : (held : Contents) (input : Input) (name bytes : List ℕ) → outcome held (load input name) ≡ Ok bytes → length (bytes_of (held name)) ≤ input_limit input
unfolding load followed_by
load_fits held input name bytes is =
    let a = apart held (sized input (option_map length (held name))) (λ size. act (Read name size)) bytes is in
    subst (λ (m : ℕ). m ≤ input_limit input) (counted (held name) a.0 (sized_gives held input (option_map length (held name)) a.0 a.1)) (sized_fits held input (option_map length (held name)) a.0 a.1)

-- ---- what is had of the promise file

record Promised (held : Contents) (name : List ℕ) (promise : PromiseFile) : Type 0 where
  pub reads : promise_of (bytes_of (held name)) ≡ Ok promise
  pub fits : length (bytes_of (held name)) ≤ input_limit PromiseInput

promise_gives : (held : Contents) (name : List ℕ) (promise : PromiseFile) → outcome held (promise_plan name) ≡ Ok promise → Promised held name promise
unfolding promise_plan
promise_gives held name promise is =
    let a = apart held (load PromiseInput name) _ promise is in
    record {
      reads = ap promise_of (sym (load_gives held PromiseInput name a.0 a.1)) ∙ formed_gives held PromiseInput (promise_of a.0) promise a.2;
      fits = load_fits held PromiseInput name a.0 a.1;
    }

concluded_gives : (held : Contents) (found : Result Report slices.Refusal) (report : Report) → outcome held (concluded found) ≡ Ok report → found ≡ Ok report
concluded_gives held (Ok r) report is = let e : r ≡ report = cc in ap (λ a. Ok a) e
concluded_gives held (Err (slices.Malformed place)) report is = absurd cc
concluded_gives held (Err (slices.Refused fact)) report is = absurd cc
concluded_gives held (Err (slices.Checkpoint late)) report is = absurd cc

-- ---- the whole of it

-- What was got is what the audit of the files' bytes gives, and these have the sizes of their files.
pub record Got (held : Contents) (q : AuditRequest) (r : Reported) : Type 0 where
  pub by : Shows (audit_of held q) r.report
  pub promise : by.promise ≡ r.promise
  pub answer : r.answer ≡ bytes_of (held q.answer)
  pub text : r.promise.text ≡ bytes_of (held q.promise)
  pub answer_fits : length (bytes_of (held q.answer)) ≤ input_limit AnswerInput
  pub promise_fits : length (bytes_of (held q.promise)) ≤ input_limit PromiseInput

reported_is : (held : Contents) (q : AuditRequest) (r : Reported) → outcome held (reported_plan q) ≡ Ok r → Got held q r
unfolding reported_plan
reported_is held q r is =
    let p = apart held (promise_plan q.promise) _ r is in
    let b = apart held (load AnswerInput q.answer) _ r p.2 in
    let a = apart held (Room (well_formed AnswerInput (slice_of b.0))) _ r b.2 in
    let u = apart held (load AuthsInput q.auths) _ r a.2 in
    let s = apart held (well_formed AuthsInput (auths_of u.0)) _ r u.2 in
    let j = apart held (Room (judged q.root p.0 a.0 q.period s.0)) _ r s.2 in
    let made : record { promise = p.0; answer = b.0; report = j.0 } ≡ r = (let got = j.2 in cc) in
    let says = promise_gives held q.promise p.0 p.1 in
    let whole = load_gives held AnswerInput q.answer b.0 b.1 in
    let by : Shows (audit_of held q) j.0 = record {
      answer = a.0;
      promise = p.0;
      auths = s.0;
      answer_reads = ap slice_of (sym whole) ∙ formed_gives held AnswerInput (slice_of b.0) a.0 a.1;
      promise_reads = says.reads;
      auths_read = ap auths_of (sym (load_gives held AuthsInput q.auths u.0 u.1)) ∙ formed_gives held AuthsInput (auths_of u.0) s.0 s.1;
      outcome_is = concluded_gives held _ j.0 j.1;
    } in
    let got : Got held q (record { promise = p.0; answer = b.0; report = j.0 }) = record {
      by = by;
      promise = refl;
      answer = whole;
      text = text_kept (bytes_of (held q.promise)) p.0 says.reads;
      answer_fits = load_fits held AnswerInput q.answer b.0 b.1;
      promise_fits = says.fits;
    } in
    subst (Got held q) made got

pub reported_gives : (q : AuditRequest) (old read : Disk) (t : Told) (r : Reported) → old.told ≡ Some t → Runs (reported_plan q) old read (Ok r) → Got t.holds q r
reported_gives q old read t r told runs =
    reported_is t.holds q r (gives_outcome (reported_plan q) t.holds old read (Ok r) (reported_each q) (ap (option_map (λ (t : Told). t.holds)) told) runs)

made_of : (answer promise : List ℕ) (q : AuditRequest) (r : Reported) → r.answer ≡ answer → r.promise.text ≡ promise
    → evidence_for q r ≡ evidence_of_report (record { root = q.root; answer = answer; promise = promise; auths = []; period = q.period }) r.report
made_of answer promise q r is text = rw (sym is, sym text) refl

-- the evidence that is saved is that of the report on what the files hold
pub evidence_is : (held : Contents) (q : AuditRequest) (r : Reported) → Got held q r → evidence_for q r ≡ evidence_of_report (audit_of held q) r.report
evidence_is held q r got = made_of (bytes_of (held q.answer)) (bytes_of (held q.promise)) q r got.answer got.text
