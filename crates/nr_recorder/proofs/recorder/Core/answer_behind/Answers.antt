use Rattle.std.proofs.Common.{subst, sym, true, false}
use Rattle.nr_recorder.specs.Answering.{Answers}
use Rattle.nr_recorder.proofs.recorder.Core.answer_behind.Goals as goal
use Rattle.nr_recorder.proofs.Behind.{chosen}

pub returns-then-begins_with_checkpoint : goal.returns-then-begins_with_checkpoint
returns-then-begins_with_checkpoint c =
    subst (Answers (λ out. out.items) c.write_behind.result)
    (sym (chosen c.args.self.now.key c.args.entries.now c.in_ok-later.later c.args.before c.begins_with_checkpoint.result true c.requires.some c.in_ok-later.ensures c.begins_with_checkpoint.ensures c.if-begins_with_checkpoint.true))
    c.write_behind.ensures

pub returns : goal.returns
returns c =
    chosen c.args.self.now.key c.args.entries.now c.in_ok-later.later c.args.before c.begins_with_checkpoint.result false c.requires.some c.in_ok-later.ensures c.begins_with_checkpoint.ensures c.if-begins_with_checkpoint.false
