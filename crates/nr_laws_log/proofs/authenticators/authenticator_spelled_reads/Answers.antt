use Rattle.nr_laws_log.proofs.AuthenticatorLaws.{authenticator_again}
use Rattle.nr_laws_log.proofs.authenticators.authenticator_spelled_reads.Goals as goal

pub returns : goal.returns
returns c = authenticator_again
