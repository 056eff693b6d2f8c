use Rattle.nr_laws_log.proofs.AuthenticatorLaws.{authenticator_takes}
use Rattle.nr_laws_log.proofs.authenticators.authenticator_reads_spelled.Goals as goal

pub returns : goal.returns
returns c = authenticator_takes
