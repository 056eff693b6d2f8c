use Rattle.nr_laws_files.proofs.AnswerCases.{opening_refused}
use Rattle.nr_laws_files.proofs.OpeningAgain.{opening_faults}
use Rattle.nr_laws_files.proofs.answers.opening_is_refused_at_its_first_fault.Goals as goal

pub returns-clause-found : goal.returns-clause-found
returns-clause-found c = opening_refused

pub returns-clause-again : goal.returns-clause-again
returns-clause-again c = opening_faults
