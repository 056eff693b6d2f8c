use Rattle.nr_laws_program.proofs.ReplyLaws.{run_reply_left}
use Rattle.nr_laws_program.proofs.laws.answer_leaves_its_answer.Goals as goal

pub returns : goal.returns
returns c = run_reply_left
