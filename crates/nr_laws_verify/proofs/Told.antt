-- What is verified is what an audit reports.
use Rattle.std.proofs.Common.{◌≡◌, ◌↔◌, ℕ, Bool, true, false, List, [], ◌∷◌, map, Result, Ok, Err, refl, sym, ap, subst, ◌∙◌}
use Rattle.std.specs.List.{AllZip}
use Rattle.nr_spec_log.specs.Answer.{AnswerFile, answer_of}
use Rattle.nr_spec_history.specs.Conflicts.{Period}
use Rattle.nr_spec_truth.specs.Truths.{Truth, meant}
use Rattle.nr_spec_report.specs.Wrong.{Base, nothing_before}
use Rattle.nr_spec_report.specs.Claims.{Claim}
use Rattle.nr_spec_outcome.specs.Report.{Report, claims_of}
use Rattle.nr_spec_outcome.specs.Outcome.{Audited, Fact, outcome, report_of}
use Rattle.nr_spec_claims.specs.Claims.{in_place, is_true_claim, judged}
use Rattle.nr_spec_evidence.specs.Evidence.{answer_offset, evidence_of, promise_offset}
use Rattle.nr_spec_texts.specs.Promises.{PromiseFile, audited_by, promise_of}
use Rattle.nr_spec_verify.specs.Verified.{ordered, read_from, verified}
use Rattle.nr_laws_promises.specs.BrokenRows.{IsOneOf}
use Rattle.nr_laws_claims.specs.Alone.{alone}
use Rattle.nr_laws_verify.specs.Verdicts.{AreVerdicts, GivesReport, IsVerdict}
use Rattle.nr_laws_verify.proofs.Given.{given}
use Rattle.nr_laws_verify.proofs.Accepted.{all_steps, judgement, ok_same, was_fact, was_in_order, was_read, went_on}

abbrev pub MembersAreTrue : Type 0
MembersAreTrue = (root : List ℕ) (files : List Audited) (truth : Truth) (base : Base) (answer : AnswerFile) (period : Period) (claim : Claim)
    → (is_true_claim root files truth base answer period claim ≡ true) ↔ IsOneOf claim (claims_of (report_of root files truth base answer period (alone claim)))

-- two tests that pass alike are equal
alike : (a b : Bool) → (a ≡ true → b ≡ true) → (b ≡ true → a ≡ true) → a ≡ b
alike true b f g = sym (f refl)
alike false true f g = g refl
alike false false f g = refl

-- what stands in place of a report
in_place_is : {A : Type 0} (told : A) (o : Result Report Fact) (v : A) → in_place told o ≡ Ok v → (r : Report) × (o ≡ Ok r) × (told ≡ v)
in_place_is told (Ok r) v e = (r, refl, ok_same {E = Fact} told v e)
in_place_is told (Err fact) v e = absurd cc

module _ (law : MembersAreTrue) (root : List ℕ) (promise : PromiseFile) (answer : AnswerFile) (period : Period) where
  abbrev files : List Audited
  files = audited_by promise ∷ []

  abbrev truth : Truth
  truth = meant (promise.says ∷ [])

  abbrev test : Claim → Bool
  test claim = is_true_claim root files truth nothing_before answer period claim

  abbrev own : Claim → Report
  own claim = report_of root files truth nothing_before answer period (alone claim)

  -- ---- from values to verdicts

  verdict : (r : Report) → GivesReport root promise answer period [] r → (claim : Claim) → IsVerdict root promise answer period claim (test claim)
  verdict r gives claim = record {
    report = own claim;
    gives = (given root files truth answer period [] (alone claim) r gives).1;
    member = law root files truth nothing_before answer period claim;
  }

  verdicts : (r : Report) → GivesReport root promise answer period [] r → (claims : List Claim) → AllZip (IsVerdict root promise answer period) claims (map test claims)
  verdicts r gives [] = tt
  verdicts r gives (claim ∷ claims) = (verdict r gives claim, verdicts r gives claims)

  -- ---- and back

  value_is : (claim : Claim) (value : Bool) → IsVerdict root promise answer period claim value → test claim ≡ value
  value_is claim value v =
      let same : own claim ≡ v.report = (given root files truth answer period (alone claim) [] v.report v.gives).0 in
      let told = law root files truth nothing_before answer period claim in
      alike (test claim) value
      (λ t. v.member.1 (subst (λ (r : Report). IsOneOf claim (claims_of r)) same (told.0 t)))
      (λ t. told.1 (subst (λ (r : Report). IsOneOf claim (claims_of r)) (sym same) (v.member.0 t)))

  values_are : (claims : List Claim) (values : List Bool) → AllZip (IsVerdict root promise answer period) claims values → map test claims ≡ values
  values_are [] [] h = refl
  values_are [] (v ∷ values) h = absurd h
  values_are (c ∷ claims) [] h = absurd h
  values_are (c ∷ claims) (v ∷ values) h = ap (λ (b : Bool). b ∷ map test claims) (value_is c v h.0) ∙ ap (λ (l : List Bool). v ∷ l) (values_are claims values h.1)

  from_judged : (claims : List Claim) (values : List Bool) → judged root files truth answer period claims ≡ Ok values
      → (r : Report) × GivesReport root promise answer period [] r × AllZip (IsVerdict root promise answer period) claims values
  unfolding judged
  from_judged claims values e =
      let p = in_place_is (map test claims) (outcome root files truth answer period []) values e in
      (p.0, p.1, subst (AllZip (IsVerdict root promise answer period) claims) p.2 (verdicts p.0 p.1 claims))

  to_judged : (claims : List Claim) (values : List Bool) (r : Report) → GivesReport root promise answer period [] r → AllZip (IsVerdict root promise answer period) claims values
      → judged root files truth answer period claims ≡ Ok values
  unfolding judged
  to_judged claims values r gives each =
      ap (in_place (map test claims)) gives ∙ ap (λ (l : List Bool). Ok l) (values_are claims values each)

pub verdicts_of : MembersAreTrue → (root bytes : List ℕ) (values : List Bool) → verified root bytes ≡ Ok values → AreVerdicts root bytes values
unfolding verified
verdicts_of law root bytes values h =
    let e = went_on (read_from 0 (evidence_of bytes)) _ values h in
    let a = went_on (read_from answer_offset (answer_of e.0.answer)) _ values e.2 in
    let p = went_on (read_from (promise_offset e.0.answer) (promise_of e.0.promise)) _ values a.2 in
    let o = went_on (ordered e.0) _ values p.2 in
    let j = from_judged law root p.0 a.0 e.0.period e.0.claims values (was_fact (judgement root p.0 a.0 e.0) values o.2) in
    record {
      evidence = e.0;
      answer = a.0;
      promise = p.0;
      evidence_reads = was_read 0 (evidence_of bytes) e.0 e.1;
      answer_reads = was_read answer_offset (answer_of e.0.answer) a.0 a.1;
      promise_reads = was_read (promise_offset e.0.answer) (promise_of e.0.promise) p.0 p.1;
      in_order = was_in_order e.0 o.0 o.1;
      report = j.0;
      gives = j.1;
      each = j.2;
    }

pub verified_by : MembersAreTrue → (root bytes : List ℕ) (values : List Bool) → AreVerdicts root bytes values → verified root bytes ≡ Ok values
verified_by law root bytes values v =
    all_steps root bytes v.evidence v.answer v.promise values v.evidence_reads v.answer_reads v.promise_reads v.in_order
    (to_judged law root v.promise v.answer v.evidence.period v.evidence.claims values v.report v.gives v.each)
