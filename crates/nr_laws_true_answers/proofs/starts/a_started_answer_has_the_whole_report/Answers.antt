use Rattle.nr_laws_true_answers.proofs.Started.{started_report}
use Rattle.nr_laws_true_answers.proofs.starts.a_started_answer_has_the_whole_report.Goals as goal

pub returns : goal.returns
returns c = started_report
