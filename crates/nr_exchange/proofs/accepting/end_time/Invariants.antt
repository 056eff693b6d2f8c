use Rattle.std.proofs.Common.{◌≡◌}
use Rattle.nr_spec_frames.specs.Verdicts.{last_item_time}
use Rattle.nr_exchange.proofs.accepting.end_time.Given as goal

abbrev pub invariant-loop-item : goal.invariant-loop-item
invariant-loop-item l = last_item_time l.time l.item-iterator ≡ last_item_time 0 l.frame.items
