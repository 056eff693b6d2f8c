use Rattle.nr_laws_log.proofs.AuthenticatorLaws.{wanted_takes}
use Rattle.nr_laws_log.proofs.authenticators.wanted_reads_spelled.Goals as goal

pub returns : goal.returns
returns c = wanted_takes
