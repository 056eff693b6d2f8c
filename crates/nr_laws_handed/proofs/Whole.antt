-- The audit of a whole log, as the verifier knows it.
use Rattle.std.proofs.Common.{◌≡◌, ℕ, ◌==◌, true, List, [], ◌∷◌, Option, None, Result, Ok, Err, refl, sym, ap, ◌∙◌}
use Rattle.nr_spec_log.specs.Authenticator.{Authenticator}
use Rattle.nr_spec_log.specs.Answer.{AnswerFile, answer_of}
use Rattle.nr_spec_history.specs.Conflicts.{Period}
use Rattle.nr_spec_report.specs.Wrong.{nothing_before}
use Rattle.nr_spec_truth.specs.Truths.{Truth, meant}
use Rattle.nr_spec_outcome.specs.Report.{Report}
use Rattle.nr_spec_outcome.specs.Outcome.{Audited, Fact, Form, holds_or, outcome, outcome_over}
use Rattle.nr_spec_slices.specs.Late.{late_of}
use Rattle.nr_spec_slices.specs.Audits.{Refusal, base_by, outcome_by, outcome_of, with_late}
use Rattle.nr_spec_slices.proofs.Sliced.{sliced, whole_has_none}
use Rattle.nr_laws_verify.specs.Audits.{Audit, Reports}
use Rattle.nr_laws_handed.specs.Handed.{Shows}

told : (given : Result Report Fact) (report : Report) → with_late None given ≡ Ok report → given ≡ Ok report
told (Ok other) report is = ap (λ (r : Report). Ok r) (same other report is)
  where
    same : (x y : Report) → (let r : Result Report Refusal = Ok x in r) ≡ Ok y → x ≡ y
    same x y e = cc
told (Err fact) report is = absurd cc

over_is : (root : List ℕ) (files : List Audited) (truth : Truth) (answer : AnswerFile) (period : Period) (auths : List Authenticator) → answer.body ≡ None
    → with_late None (outcome_over root files truth nothing_before answer period auths) ≡ outcome_of root files truth answer period auths
unfolding outcome_of
over_is root files truth answer period auths none =
    ap (λ (b : Option (List ℕ)). with_late (late_of period b answer.entries) (outcome_over root files truth nothing_before answer period auths)) (sym none)
    ∙ ap (λ (b : Option (List ℕ)). outcome_by root files truth answer period auths (base_by b answer.entries)) (sym none)

whole_outcome : (root : List ℕ) (files : List Audited) (truth : Truth) (answer : AnswerFile) (period : Period) (auths : List Authenticator) (report : Report) → answer.first ≡ 1 → answer.body ≡ None
    → outcome_of root files truth answer period auths ≡ Ok report → outcome root files truth answer period auths ≡ Ok report
unfolding outcome
whole_outcome root files truth answer period auths report one none is =
    ap (λ (n : ℕ). holds_or (n == 1) Form (outcome_over root files truth nothing_before answer period auths)) one
    ∙ told (outcome_over root files truth nothing_before answer period auths) report (over_is root files truth answer period auths none ∙ is)

pub shown_whole : (audit : Audit) (report : Report) → ((answer : AnswerFile) → answer_of audit.answer ≡ Ok answer → answer.first ≡ 1) → Shows audit report → Reports audit report
shown_whole audit report whole s =
    let reads = (sliced audit.answer s.answer s.answer_reads).reads in
    record {
      answer = s.answer;
      promise = s.promise;
      auths = s.auths;
      answer_reads = reads;
      promise_reads = s.promise_reads;
      auths_read = s.auths_read;
      outcome_is = whole_outcome audit.root _ _ s.answer audit.period s.auths report (whole s.answer reads) (whole_has_none audit.answer s.answer reads (whole s.answer reads)) s.outcome_is;
    }
