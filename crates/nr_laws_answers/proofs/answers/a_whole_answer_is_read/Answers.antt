use Rattle.nr_laws_answers.proofs.Whole.{whole_fits}
use Rattle.nr_laws_answers.proofs.answers.a_whole_answer_is_read.Goals as goal

pub returns-clause-fits : goal.returns-clause-fits
returns-clause-fits c = whole_fits

pub returns-clause-again : goal.returns-clause-again
returns-clause-again c = λ key log answer ranges fits is. c.answer_file_again.ensures answer (whole_fits key log answer ranges fits is)
