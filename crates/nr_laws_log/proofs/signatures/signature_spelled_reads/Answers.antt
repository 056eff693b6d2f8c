use Rattle.nr_laws_log.proofs.SignatureLaws.{signature_again}
use Rattle.nr_laws_log.proofs.signatures.signature_spelled_reads.Goals as goal

pub returns : goal.returns
returns c = signature_again
