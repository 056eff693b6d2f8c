use Rattle.nr_laws_handed.proofs.Left.{run_leaves}
use Rattle.nr_laws_handed.proofs.audits.audit_leaves_its_evidence.Goals as goal

pub returns : goal.returns
returns c = run_leaves
