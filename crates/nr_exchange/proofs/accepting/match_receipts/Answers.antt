use Rattle.std.proofs.Common.{ℕ, ◌+◌, ◌-◌, ◌<◌, ◌≤◌, ◌^◌, List, length, map, drop, ap, ◌∙◌, arith}
use Rattle.std.specs.List.{filter_map}
use Rattle.std.proofs.lemmas.List.{length-map}
use Rattle.nr_spec_frames.specs.Frames.{FrameItem}
use Rattle.nr_spec_frames.specs.Verdicts.{receipt_in, matched}
use Rattle.nr_exchange.specs.Views.{frame_item_of}
use Rattle.nr_exchange.proofs.Matching.{ends, goes_on, goes_past}
use Rattle.nr_exchange.proofs.accepting.match_receipts.Goals.{in-Some-receipt_after+in-Some-find_from, in_default}
use Rattle.nr_exchange.proofs.accepting.match_receipts.Goals as goal

pub returns : goal.returns
returns c =
    ends (c.args.view.now.upto + c.loop-item.next) c.loop-item.receipt c.args.view.now.number (c.args.view.now.seq + 1 - c.loop-item.seq) c.loop-item.item-iterator
    (drop c.loop-item.next (map (λ p. p.now) c.args.view.now.pending.now)) _ c.in-None.ensures.steps.0 c.loop-item.invariant.so_far

pub loop-item-preserved : goal.loop-item-preserved
loop-item-preserved c =
    let sends : List (List ℕ) = map (λ p. p.now) c.args.view.now.pending.now in
    let n : ℕ = c.args.view.now.number in
    let above : ℕ = c.args.view.now.seq in
    let upto : ℕ = c.args.view.now.upto in
    let next : ℕ = c.match-receipt_after.next in
    let receipt : ℕ = c.match-receipt_after.receipt in
    let item : FrameItem = frame_item_of c.in-Some.item in
    let rest : List FrameItem = c.next.new.self in
    let others : List (List ℕ) = filter_map (receipt_in n) (drop (above + 1 - (c.loop-item.seq + 1)) rest) in
    let steps = c.in-Some.ensures.steps in
    let counted : c.loop-item.receipt + 1 + length rest ≤ 16777216 = omega (arith, ap (λ (t : List FrameItem). length t) steps, c.loop-item.invariant.counted) in
    let room : c.loop-item.seq + 1 + length rest ≤ 2 ^ 63 = omega (arith, ap (λ (t : List FrameItem). length t) steps, c.loop-item.invariant.room) in
    elim c.match-receipt_after.branch [
      | in-Some-receipt_after+in-Some-find_from w ↦
          let raw : List ℕ = w.in-Some-receipt_after.raw.now in
          let at : ℕ = w.in-Some-find_from.at in
          let past = goes_past upto c.loop-item.next at c.loop-item.receipt n above c.loop-item.seq item rest c.loop-item.item-iterator sends raw _ steps w.in-Some-receipt_after.ensures w.in-Some-find_from.ensures c.loop-item.invariant.so_far in
          let below : at < length sends = w.in-Some-find_from.ensures.1 in
          record {
            so_far = ap (λ (k : ℕ). matched (upto + k) receipt others (drop k sends)) w.next-is ∙ ap (λ (k : ℕ). matched (upto + (at + 1)) k others (drop (at + 1) sends)) w.receipt-is ∙ past;
            within = omega (arith, w.next-is, below, length-map c.args.view.now.pending.now (λ p. p.now));
            counted = omega (arith, counted, w.receipt-is);
            room = room;
          }
      | in_default w ↦
          let on = goes_on (upto + c.loop-item.next) c.loop-item.receipt n above c.loop-item.seq item rest c.loop-item.item-iterator (drop c.loop-item.next sends) _ steps w.in_default.ensures c.loop-item.invariant.so_far in
          record {
            so_far = ap (λ (k : ℕ). matched (upto + k) receipt others (drop k sends)) w.next-is ∙ ap (λ (k : ℕ). matched (upto + c.loop-item.next) k others (drop c.loop-item.next sends)) w.receipt-is ∙ on;
            within = omega (arith, w.next-is, c.loop-item.invariant.within);
            counted = omega (arith, counted, w.receipt-is);
            room = room;
          }
    ]
