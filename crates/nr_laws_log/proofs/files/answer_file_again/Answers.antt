use Rattle.nr_laws_log.proofs.AnswerLaws.{answer_again}
use Rattle.nr_laws_log.proofs.files.answer_file_again.Goals as goal

pub returns : goal.returns
returns c = answer_again
