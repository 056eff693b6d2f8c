use Rattle.nr_laws_files.proofs.AuthCases.{file_refused}
use Rattle.nr_laws_files.proofs.FileAgain.{file_faults}
use Rattle.nr_laws_files.proofs.authenticators.auths_file_is_refused_at_its_first_fault.Goals as goal

pub returns-clause-found : goal.returns-clause-found
returns-clause-found c = file_refused

pub returns-clause-again : goal.returns-clause-again
returns-clause-again c = file_faults
