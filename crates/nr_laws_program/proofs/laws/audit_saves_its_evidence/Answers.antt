use Rattle.nr_laws_program.proofs.AuditLaws.{run_saves_evidence}
use Rattle.nr_laws_program.proofs.laws.audit_saves_its_evidence.Goals as goal

pub returns : goal.returns
returns c = run_saves_evidence
