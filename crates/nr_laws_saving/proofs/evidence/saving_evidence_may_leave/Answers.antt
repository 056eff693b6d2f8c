use Rattle.nr_laws_saving.proofs.EvidenceLaws.{evidence_left}
use Rattle.nr_laws_saving.proofs.evidence.saving_evidence_may_leave.Goals as goal

pub returns : goal.returns
returns c = λ name e old new t result told runs. let after = evidence_left name e old new t result told runs in (after.now, after.told, after.left)
