use Rattle.nr_laws_program.proofs.ReplyLaws.{run_reply_may_leave}
use Rattle.nr_laws_program.proofs.laws.answer_may_leave.Goals as goal

pub returns : goal.returns
returns c = run_reply_may_leave
