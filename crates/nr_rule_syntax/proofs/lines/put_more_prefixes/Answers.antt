use Rattle.std.proofs.Common.{codes, arith}
use Rattle.nr_rule_syntax.specs.Printing.{prefix_text}
use Rattle.nr_rule_syntax.proofs.Texts.{each_done}
use Rattle.nr_rule_syntax.proofs.lines.put_more_prefixes.Goals as goal

pub returns : goal.returns
returns c = each_done (codes ", ") prefix_text c.args.places.now c.loop-at.at c.loop-at.out.items _ (omega arith) c.loop-at.invariant
