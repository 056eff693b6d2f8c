use Rattle.std.proofs.Common.{sym, subst}
use Rattle.std.specs.Prelude.{Result, map}
use Rattle.nr_evidence.specs.Views.{period_of}
use Rattle.nr_spec_slices.specs.Audits.{outcome_of}
use Rattle.nr_audit.specs.Views.{audited_of}
use Rattle.nr_audit.specs.declared.report.Report.{Report}
use Rattle.nr_slices.specs.declared.auditing.SliceRefusal.{SliceRefusal}
use Rattle.nr_slices.specs.Answers.{Tells}
use Rattle.nr_slices.proofs.Before.{before_is}
use Rattle.nr_slices.proofs.Telling.{slice_tells}
use Rattle.nr_slices.proofs.auditing.audit_slice.Goals as goal

pub returns-clause-outcome : goal.returns-clause-outcome
returns-clause-outcome g c =
    let root = c.args.root.now.0 in
    let files = map audited_of c.args.files.now in
    let truth = g.J.Judge.truth c.args.judge.now in
    let answer = c.args.slice.answer in
    let period = period_of c.args.period.now in
    let auths = c.args.auths.now in
    let before = c.requires.before in
    subst (λ (r : Result Report SliceRefusal). Tells auths r (outcome_of root files truth answer period auths)) (sym c.told_by.ensures)
    (slice_tells root files truth before.base answer period auths c.late_start-late.result c.audit_over-told.result before.based c.late_start-late.ensures
    (c.audit_over-told.ensures.outcome before.base (before_is answer c.args.slice.state c.args.slice.counts before before.base before.based)))

pub returns-clause-counted : goal.returns-clause-counted
returns-clause-counted g c = λ base is.
    c.audit_over-told.ensures.counted base (before_is c.args.slice.answer c.args.slice.state c.args.slice.counts c.requires.before base is)
