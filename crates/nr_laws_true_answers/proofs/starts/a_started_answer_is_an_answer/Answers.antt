use Rattle.nr_laws_true_answers.proofs.Started.{started_fits}
use Rattle.nr_laws_true_answers.proofs.starts.a_started_answer_is_an_answer.Goals as goal

pub returns : goal.returns
returns c = started_fits
