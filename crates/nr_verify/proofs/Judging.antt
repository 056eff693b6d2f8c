-- What claims are judged by, and what the facts for which an answer is refused make of that.
use Rattle.std.proofs.Common.{◌≡◌, ℕ, Bool, true, false, eqb, List, [], ◌∷◌, map, Some, None, Result, Ok, Err, refl, ap}
use Rattle.std.proofs.lemmas.Bool.{eqb-true}
use Rattle.std.specs.Result.{result_err}
use Rattle.nr_spec_log.specs.Answer.{AnswerFile}
use Rattle.nr_spec_history.specs.Conflicts.{Period}
use Rattle.nr_spec_truth.specs.Truths.{Truth}
use Rattle.nr_spec_report.specs.Claims.{Claim}
use Rattle.nr_spec_report.specs.Wrong.{nothing_before}
use Rattle.nr_spec_outcome.specs.Report.{Report}
use Rattle.nr_spec_outcome.specs.Outcome.{Audited, Fact, Form, holds_or, outcome, outcome_over, promise_files}
use Rattle.nr_spec_claims.specs.Claims.{in_place, is_true_claim, judged}
use Rattle.nr_spec_verify.specs.Verified.{Refused, Refusal, by_facts}
use Rattle.nr_verify_runs.specs.declared.file.Text.{Text}
use Rattle.nr_verify_runs.specs.Views.{file_of, files_in}
use Rattle.nr_verify_heads.specs.Refused.{refusal_of}
use Rattle.nr_verify_heads.specs.Views.{audited_in}

pub files_are : (texts : List Text) → promise_files (audited_in texts) ≡ files_in texts
files_are [] = refl
files_are (t ∷ texts) = ap (λ files. file_of t ∷ files) (files_are texts)

refused_by : (marks : List Bool) (o : Result Report Fact) (fact : Fact) → Some fact ≡ result_err o → by_facts (in_place marks o) ≡ Err (Refused fact)
refused_by marks (Ok report) fact e = absurd cc
refused_by marks (Err f) fact e = let is : f ≡ fact = cc in ap (λ (x : Fact). let r : Result (List Bool) Refusal = Err (Refused x) in r) is

-- the verifier refuses what an audit does
pub refused_so : (root : List ℕ) (files : List Audited) (truth : Truth) (answer : AnswerFile) (period : Period) (claims : List Claim) (fact : Fact)
    → Some fact ≡ refusal_of root files truth answer period → by_facts (judged root files truth answer period claims) ≡ Err (Refused fact)
unfolding judged
refused_so root files truth answer period claims fact e =
    refused_by (map (is_true_claim root files truth nothing_before answer period) claims) (outcome root files truth answer period []) fact e

taken_by : (marks : List Bool) (o : Result Report Fact) → None ≡ result_err o → by_facts (in_place marks o) ≡ Ok marks
taken_by marks (Ok report) e = refl
taken_by marks (Err f) e = absurd cc

-- and judges the claims of what it doesn't refuse
pub taken_so : (root : List ℕ) (files : List Audited) (truth : Truth) (answer : AnswerFile) (period : Period) (claims : List Claim) (marks : List Bool)
    → None ≡ refusal_of root files truth answer period → marks ≡ map (is_true_claim root files truth nothing_before answer period) claims
    → by_facts (judged root files truth answer period claims) ≡ Ok marks
unfolding judged
taken_so root files truth answer period claims marks e is =
    rw is (taken_by (map (is_true_claim root files truth nothing_before answer period) claims) (outcome root files truth answer period []) e)

first_by : (test : Bool) (next : Result Report Fact) → None ≡ result_err (holds_or test Form next) → test ≡ true
first_by true next e = refl
first_by false next e = absurd cc

-- which is a whole answer
pub first_so : (root : List ℕ) (files : List Audited) (truth : Truth) (answer : AnswerFile) (period : Period) → None ≡ refusal_of root files truth answer period → answer.first ≡ 1
unfolding outcome
first_so root files truth answer period e = eqb-true answer.first 1 (first_by (eqb answer.first 1) (outcome_over root files truth nothing_before answer period []) e)
