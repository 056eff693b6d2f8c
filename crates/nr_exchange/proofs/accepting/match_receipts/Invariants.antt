use Rattle.std.proofs.Common.{◌≡◌, ◌+◌, ◌-◌, ◌≤◌, ◌^◌, drop, length}
use Rattle.std.specs.Prelude.{map}
use Rattle.std.specs.List.{filter_map}
use Rattle.nr_spec_frames.specs.Verdicts.{matched, receipts, receipt_in}
use Rattle.nr_exchange.proofs.accepting.match_receipts.Given as goal

abbrev pub invariant-loop-item : goal.invariant-loop-item
invariant-loop-item l = record {
  so_far : matched (l.view.upto + l.next) l.receipt (filter_map (receipt_in l.view.number) (drop (l.view.seq + 1 - l.seq) l.item-iterator)) (drop l.next (map (λ p. p.now) l.view.pending.now))
      ≡ matched l.view.upto 0 (receipts l.view.number l.view.seq l.frame) (map (λ p. p.now) l.view.pending.now);
  within : l.next ≤ length l.view.pending.now;
  counted : l.receipt + length l.item-iterator ≤ 16777216;
  room : l.seq + length l.item-iterator ≤ 2 ^ 63;
}
