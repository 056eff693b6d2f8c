use Rattle.std.proofs.Common.{◌≡◌, ◌-◌}
use Rattle.nr_spec_wire.specs.Reading.{IsOnward}
use Rattle.nr_spec_frames.specs.Frames.{items_at}
use Rattle.nr_exchange.proofs.ItemSteps.{ending}
use Rattle.nr_exchange.proofs.items.read_items.Given as goal

-- The entries that are left end as all of them do.
abbrev pub invariant-loop : goal.invariant-loop
invariant-loop l = record {
  so_far : ending l.last (items_at l.last (l.count - l.counter) l.cursor) ≡ ending 0 (items_at 0 l.count l.start);
  onward : IsOnward l.fn.cursor l.cursor;
  started : l.start ≡ l.fn.cursor;
}
