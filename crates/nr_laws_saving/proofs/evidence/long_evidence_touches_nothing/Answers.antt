use Rattle.nr_laws_saving.proofs.EvidenceLaws.{evidence_declined}
use Rattle.nr_laws_saving.proofs.evidence.long_evidence_touches_nothing.Goals as goal

pub returns : goal.returns
returns c = evidence_declined
