use Rattle.nr_laws_evidence.proofs.FileLaws.{again}
use Rattle.nr_laws_evidence.proofs.files.evidence_file_again.Goals as goal

pub returns : goal.returns
returns c = again
