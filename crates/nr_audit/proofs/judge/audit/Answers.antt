use Rattle.std.specs.Prelude.{Result, map}
use Rattle.std.proofs.Common.{subst}
use Rattle.nr_evidence.specs.Views.{period_of}
use Rattle.nr_spec_outcome.specs.Outcome.{Fact}
use Rattle.nr_spec_outcome.specs.Report.{Report}
use Rattle.nr_spec_report.specs.Wrong.{nothing_before}
use Rattle.nr_audit.specs.Answers.{Answers}
use Rattle.nr_audit.specs.Views.{audited_of}
use Rattle.nr_audit.proofs.Before.{none_ascend, nothing_is}
use Rattle.nr_audit.proofs.Judging.{whole_log}
use Rattle.nr_audit.proofs.judge.audit.Goals as goal

pub audit_over-requires-clause-order : goal.audit_over-requires-clause-order
audit_over-requires-clause-order g c = none_ascend c.new-state.result c.new-state.ensures

pub returns-clause-outcome : goal.returns-clause-outcome
returns-clause-outcome g c =
    subst (λ (o : Result Report Fact). Answers c.args.auths.now c.audit_over.result o)
    (whole_log c.args.root.now.0 (map audited_of c.args.files.now) (g.J.Judge.truth c.args.judge.now) c.args.answer.now (period_of c.args.period.now) c.args.auths.now c.requires.first)
    (c.audit_over.ensures.outcome nothing_before (nothing_is c.new-state.result c.new-counts.result c.new-state.ensures c.new-counts.ensures))
