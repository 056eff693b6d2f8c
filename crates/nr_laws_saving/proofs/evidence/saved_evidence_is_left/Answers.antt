use Rattle.nr_laws_saving.proofs.EvidenceLaws.{evidence_fits, evidence_saved}
use Rattle.nr_laws_saving.proofs.evidence.saved_evidence_is_left.Goals as goal

pub returns : goal.returns
returns c = λ name e old new t told runs. let after = evidence_saved name e old new t told runs in ((evidence_fits name e old new runs).fits, (after.now, after.told, after.saved))
