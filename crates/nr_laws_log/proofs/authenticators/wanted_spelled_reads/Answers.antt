use Rattle.nr_laws_log.proofs.AuthenticatorLaws.{wanted_again}
use Rattle.nr_laws_log.proofs.authenticators.wanted_spelled_reads.Goals as goal

pub returns : goal.returns
returns c = wanted_again
