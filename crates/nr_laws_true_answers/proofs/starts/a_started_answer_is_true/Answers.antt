use Rattle.nr_laws_true_answers.proofs.Started.{started_true}
use Rattle.nr_laws_true_answers.proofs.starts.a_started_answer_is_true.Goals as goal

pub returns : goal.returns
returns c = started_true
