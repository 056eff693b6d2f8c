use Rattle.std.proofs.Common.{◌≡◌, drop, map, take}
use Rattle.nr_spec_frames.specs.Showing.{seen_by}
use Rattle.nr_exchange.specs.Views.{frame_item_of}
use Rattle.nr_recorder.proofs.log.Log.seen_by.Given as goal

abbrev pub invariant-loop-place : goal.invariant-loop-place
invariant-loop-place l = map frame_item_of l.items ≡ map (seen_by l.neighbour) (drop l.from (take l.place l.self))
