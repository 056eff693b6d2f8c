use Rattle.nr_laws_handed.proofs.Left.{run_may_leave, run_refused}
use Rattle.nr_laws_handed.proofs.audits.audit_may_leave.Goals as goal

pub returns-clause-left : goal.returns-clause-left
returns-clause-left c = run_may_leave

pub returns-clause-unwritten : goal.returns-clause-unwritten
returns-clause-unwritten c = run_refused
