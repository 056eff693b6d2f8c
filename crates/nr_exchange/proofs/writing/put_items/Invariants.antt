use Rattle.std.proofs.Common.{◌≡◌, ◌++◌, map, drop}
use Rattle.std.specs.List.{flat_map}
use Rattle.nr_spec_frames.specs.Frames.{frame_item}
use Rattle.nr_exchange.specs.Views.{frame_item_of}
use Rattle.nr_exchange.proofs.writing.put_items.Given as goal

abbrev pub invariant-loop-i : goal.invariant-loop-i
invariant-loop-i l = l.out.items ++ flat_map frame_item (drop l.i (map frame_item_of l.items)) ≡ l.fn.out.items ++ flat_map frame_item (map frame_item_of l.items)
