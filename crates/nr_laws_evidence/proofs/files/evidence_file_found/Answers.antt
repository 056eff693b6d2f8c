use Rattle.nr_laws_evidence.proofs.FileLaws.{found}
use Rattle.nr_laws_evidence.proofs.files.evidence_file_found.Goals as goal

pub returns : goal.returns
returns c = found
