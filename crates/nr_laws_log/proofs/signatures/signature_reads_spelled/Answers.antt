use Rattle.nr_laws_log.proofs.SignatureLaws.{signature_takes}
use Rattle.nr_laws_log.proofs.signatures.signature_reads_spelled.Goals as goal

pub returns : goal.returns
returns c = signature_takes
