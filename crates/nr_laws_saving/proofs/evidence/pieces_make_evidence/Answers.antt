use Rattle.nr_laws_saving.proofs.EvidenceLaws.{parts_join}
use Rattle.nr_laws_saving.proofs.evidence.pieces_make_evidence.Goals as goal

pub returns : goal.returns
returns c = parts_join
