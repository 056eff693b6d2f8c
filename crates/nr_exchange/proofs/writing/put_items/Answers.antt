use Rattle.std.proofs.Common.{sym, ◌∙◌, arith}
use Rattle.nr_exchange.proofs.Written.{item_fits, none_given, written_more}
use Rattle.nr_exchange.proofs.writing.put_items.Goals as goal

pub put_item-requires : goal.put_item-requires
put_item-requires c = item_fits 0 c.args.items.now c.loop-i.i c.in-Some.item c.requires (sym c.get.ensures ∙ c.in-Some.is)

pub unreachable-requires : goal.unreachable-requires
unreachable-requires c = none_given c.args.items.now c.loop-i.i (omega (arith, c.loop-i-test.true, c.len-i-end.ensures)) (sym c.get.ensures ∙ c.in-None.is)

pub loop-i-preserved : goal.loop-i-preserved
loop-i-preserved c = written_more c.args.items.now c.loop-i.i c.in-Some.item _ _ _ (sym c.get.ensures ∙ c.in-Some.is) c.in_ok-put_item-in-Some.ensures c.loop-i.invariant
