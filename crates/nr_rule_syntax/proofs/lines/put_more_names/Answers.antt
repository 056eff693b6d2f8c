use Rattle.std.proofs.Common.{codes, arith}
use Rattle.nr_rule_syntax.specs.Printing.{name_text}
use Rattle.nr_rule_syntax.proofs.Texts.{each_done}
use Rattle.nr_rule_syntax.proofs.lines.put_more_names.Goals as goal

pub returns : goal.returns
returns c = each_done (codes ", ") name_text c.args.names.now c.loop-at.at c.loop-at.out.items _ (omega arith) c.loop-at.invariant
