use Rattle.nr_laws_log.proofs.AnswerLaws.{answer_takes}
use Rattle.nr_laws_log.proofs.files.answer_file_found.Goals as goal

pub returns : goal.returns
returns c = answer_takes
