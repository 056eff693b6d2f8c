use Rattle.std.proofs.Common.{drop, arith}
use Rattle.nr_rule_syntax.specs.Printing.{within, printed}
use Rattle.nr_rule_syntax.proofs.Texts.{each_done, mapped_twice}
use Rattle.nr_rule_syntax.proofs.printing.+print.Goals as goal

pub put_more-returns : goal.put_more-returns
put_more-returns t c =
    rw (← mapped_twice printed (within c.args.least) (drop 1 c.args.members.now))
    (each_done c.args.between.now (λ m. within c.args.least (printed m)) c.args.members.now c.loop-at.at c.loop-at.out.items _ (omega arith) c.loop-at.invariant)
