use Rattle.nr_laws_files.proofs.AuthCases.{wanted_refused}
use Rattle.nr_laws_files.proofs.AuthAgain.{wanted_faults}
use Rattle.nr_laws_files.proofs.authenticators.authenticator_is_refused_at_its_first_fault.Goals as goal

pub returns-clause-found : goal.returns-clause-found
returns-clause-found c = wanted_refused

pub returns-clause-again : goal.returns-clause-again
returns-clause-again c = wanted_faults
