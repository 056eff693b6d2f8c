-- What is told of a slice is what its audit gives.
use Rattle.std.proofs.Common.{◌≡◌, ℕ, List, Option, Some, None, Result, Ok, Err, sym, ap, subst, ◌∙◌}
use Rattle.std.specs.Prelude.{option_map}
use Rattle.nr_spec_log.specs.Authenticator.{Authenticator}
use Rattle.nr_spec_log.specs.Answer.{AnswerFile}
use Rattle.nr_spec_history.specs.Conflicts.{Period}
use Rattle.nr_spec_report.specs.Wrong.{Base}
use Rattle.nr_spec_truth.specs.Truths.{Truth}
use Rattle.nr_spec_outcome.specs.Report as report
use Rattle.nr_spec_outcome.specs.Outcome as outcome
use Rattle.nr_spec_outcome.specs.Outcome.{Audited, outcome_over}
use Rattle.nr_spec_slices.specs.Late as spec_late
use Rattle.nr_spec_slices.specs.Late.{late_fact}
use Rattle.nr_spec_slices.specs.Audits.{base_by, outcome_by, outcome_of, with_late}
use Rattle.nr_audit.specs.Answers.{Answers}
use Rattle.nr_audit.specs.declared.report.Report.{Report}
use Rattle.nr_audit.specs.declared.refusal.Refusal.{Refusal}
use Rattle.nr_audit.specs.declared.refusal.Refusal.TheVariants as refusal
use Rattle.nr_slices.specs.declared.late.Late as declared_late
use Rattle.nr_slices.specs.Views.{late_of}
use Rattle.nr_slices.specs.Answers.{Tells, told_of}

tells : (auths : List Authenticator) (late : Option declared_late.Late) (told : Result Report Refusal) (o : Result report.Report outcome.Fact) → Answers auths told o → Tells auths (told_of late told) (with_late (option_map late_of late) o)
tells auths None (Ok r) o is = ap (with_late None) is
tells auths None (Err (refusal.Network answer promise)) o is = ap (with_late None) is
tells auths None (Err refusal.Unsigned) o is = ap (with_late None) is
tells auths None (Err (refusal.Head head chain)) o is = ap (with_late None) is
tells auths None (Err (refusal.Short head to)) o is = ap (with_late None) is
tells auths None (Err (refusal.Promise found file)) o is = ap (with_late None) is
tells auths None (Err refusal.Memory) o is = tt
tells auths (Some late) (Ok r) o is = ap (with_late (Some (late_of late))) is
tells auths (Some late) (Err (refusal.Network answer promise)) o is = ap (with_late (Some (late_of late))) is
tells auths (Some late) (Err refusal.Unsigned) o is = ap (with_late (Some (late_of late))) is
tells auths (Some late) (Err (refusal.Head head chain)) o is = ap (with_late (Some (late_of late))) is
tells auths (Some late) (Err (refusal.Short head to)) o is = ap (with_late (Some (late_of late))) is
tells auths (Some late) (Err (refusal.Promise found file)) o is = ap (with_late (Some (late_of late))) is
tells auths (Some late) (Err refusal.Memory) o is = tt

outcome_is : (root : List ℕ) (files : List Audited) (truth : Truth) (base : Base) (answer : AnswerFile) (period : Period) (auths : List Authenticator) → base_by answer.body answer.entries ≡ Ok base
    → with_late (late_fact answer period) (outcome_over root files truth base answer period auths) ≡ outcome_of root files truth answer period auths
unfolding outcome_of
outcome_is root files truth base answer period auths is = ap (outcome_by root files truth answer period auths) (sym is)

pub slice_tells : (root : List ℕ) (files : List Audited) (truth : Truth) (base : Base) (answer : AnswerFile) (period : Period) (auths : List Authenticator) (late : Option declared_late.Late) (told : Result Report Refusal)
    → base_by answer.body answer.entries ≡ Ok base → option_map late_of late ≡ late_fact answer period → Answers auths told (outcome_over root files truth base answer period auths)
    → Tells auths (told_of late told) (outcome_of root files truth answer period auths)
slice_tells root files truth base answer period auths late told based late_is is =
    subst (Tells auths (told_of late told))
    (ap (λ (l : Option spec_late.Late). with_late l (outcome_over root files truth base answer period auths)) late_is ∙ outcome_is root files truth base answer period auths based)
    (tells auths late told (outcome_over root files truth base answer period auths) is)
