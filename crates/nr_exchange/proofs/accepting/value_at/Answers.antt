use Rattle.std.proofs.Common.{◌≡◌, ◌+◌, ◌-◌, ◌≤◌, List, length, take, sym, ap, ◌∙◌, arith}
use Rattle.nr_spec_log.specs.Chain.{Chain, chained}
use Rattle.nr_chain.specs.Views.{item_of}
use Rattle.nr_spec_frames.specs.Frames.{FrameItem}
use Rattle.nr_spec_frames.specs.Verdicts.{chain_after}
use Rattle.nr_exchange.specs.Views.{frame_item_of}
use Rattle.nr_exchange.proofs.Matching.{chain_more, chain_item_is}
use Rattle.nr_exchange.proofs.accepting.value_at.Goals as goal

pub loop-item-preserved-then-next_seq-seq : goal.loop-item-preserved-then-next_seq-seq
loop-item-preserved-then-next_seq-seq c =
    let walk : Chain = c.loop-item.walk in
    let rest : List FrameItem = c.next.new.self in
    let pushed : c.push.new.self ≡ chained walk (item_of c.in-Some.item) = c.push.ensures.walk in
    let le : walk.seq ≤ c.args.seq = omega (arith, c.if-next_seq-seq.true, c.next_seq.ensures) in
    let step : chain_after walk (take (c.args.seq + 1 - walk.seq) c.loop-item.item-iterator) ≡ chain_after c.push.new.self (take (c.args.seq + 1 - c.push.new.self.seq) rest) =
    ap (λ (t : List FrameItem). chain_after walk (take (c.args.seq + 1 - walk.seq) t)) c.in-Some.ensures.steps
    ∙ chain_more walk c.args.seq (frame_item_of c.in-Some.item) rest le
    ∙ ap (λ (t : Chain). chain_after t (take (c.args.seq + 1 - t.seq) rest)) (ap (chained walk) (chain_item_is c.in-Some.item) ∙ sym pushed) in
    record {
      so_far = ap (λ (t : Chain). t.value) (sym step) ∙ c.loop-item.invariant.so_far;
      room = omega (arith, ap (λ (t : Chain). t.seq) pushed, ap (λ (t : List FrameItem). length t) c.in-Some.ensures.steps, c.loop-item.invariant.room);
    }
