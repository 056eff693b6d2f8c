use Rattle.nr_laws_program.proofs.ReplyLaws.{run_replies}
use Rattle.nr_laws_program.proofs.laws.answer_saves_its_answer.Goals as goal

pub returns : goal.returns
returns c = run_replies
