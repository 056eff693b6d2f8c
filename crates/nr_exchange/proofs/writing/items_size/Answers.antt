use Rattle.std.proofs.Common.{sym, ◌∙◌, arith}
use Rattle.nr_exchange.proofs.Written.{item_fits, none_given}
use Rattle.nr_exchange.proofs.writing.items_size.Goals as goal

pub item_size-size-requires : goal.item_size-size-requires
item_size-size-requires c = item_fits 0 c.args.items.now c.loop-i.i c.in-Some.item c.requires.fit (sym c.get.ensures ∙ c.in-Some.is)

pub unreachable-requires : goal.unreachable-requires
unreachable-requires c = none_given c.args.items.now c.loop-i.i (omega (arith, c.loop-i-test.true, c.len-i-end.ensures)) (sym c.get.ensures ∙ c.in-None.is)
