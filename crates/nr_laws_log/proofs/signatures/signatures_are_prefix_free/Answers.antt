use Rattle.nr_spec_log.specs.Authenticator.{IsSignature, signature, signature_at}
use Rattle.nr_laws_log.proofs.Fields.{prefix_free}
use Rattle.nr_laws_log.proofs.SignatureLaws.{signature_again}
use Rattle.nr_laws_log.proofs.signatures.signatures_are_prefix_free.Goals as goal

pub returns : goal.returns
returns c = prefix_free signature_at IsSignature signature signature_again
