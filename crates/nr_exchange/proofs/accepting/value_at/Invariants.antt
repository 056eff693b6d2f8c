use Rattle.std.proofs.Common.{◌≡◌, ◌+◌, ◌-◌, ◌≤◌, ◌^◌, length, take}
use Rattle.nr_spec_frames.specs.Verdicts.{chain_after, frame_value}
use Rattle.nr_exchange.proofs.accepting.value_at.Given as goal

abbrev pub invariant-loop-item : goal.invariant-loop-item
invariant-loop-item l = record {
  so_far : (chain_after l.walk (take (l.seq + 1 - l.walk.seq) l.item-iterator)).value ≡ frame_value l.frame l.seq;
  room : l.walk.seq + length l.item-iterator ≤ 2 ^ 63;
}
