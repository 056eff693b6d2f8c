use Rattle.nr_laws_files.proofs.AnswerCases.{answer_refused}
use Rattle.nr_laws_files.proofs.AnswerAgain.{answer_faults}
use Rattle.nr_laws_files.proofs.answers.answer_file_is_refused_at_its_first_fault.Goals as goal

pub returns-clause-found : goal.returns-clause-found
returns-clause-found c = answer_refused

pub returns-clause-again : goal.returns-clause-again
returns-clause-again c = answer_faults
