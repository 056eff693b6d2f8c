use Rattle.nr_spec_log.specs.Authenticator.{IsAuthenticator, authenticator, authenticator_at}
use Rattle.nr_laws_log.proofs.Fields.{prefix_free}
use Rattle.nr_laws_log.proofs.AuthenticatorLaws.{authenticator_again}
use Rattle.nr_laws_log.proofs.authenticators.authenticators_are_prefix_free.Goals as goal

pub returns : goal.returns
returns c = prefix_free authenticator_at IsAuthenticator authenticator authenticator_again
