use Rattle.std.proofs.Common.{◌≡◌, sym, ap, subst, ◌∙◌, Err, rules}
use Rattle.std.proofs.lemmas.Result.{err_from_is_err_and}
use Rattle.nr_spec_wire.specs.Reading.{Spot}
use Rattle.nr_spec_frames.specs.Frames.{items_at}
use Rattle.nr_exchange.proofs.ItemSteps.{length-items, ending-goes, ending-fails, ending-done}
use Rattle.nr_bytes.specs.Views.{offset_of}
use Rattle.nr_exchange.specs.Views.{frame_item_of}
use Rattle.nr_exchange.proofs.items.read_items.Goals as goal

pub returns-in_err-item-clause-value : goal.returns-in_err-item-clause-value
returns-in_err-item-clause-value c =
    let p = err_from_is_err_and c.from_residual.result c.from_residual.ensures.1 in
    let failed = ending-fails c.loop.last c.args.count c.loop.counter c.loop.cursor (offset_of c.in_err-item.field-0.0)
    (items_at 0 c.args.count c.fork-start.result) c.loop-test.true c.in_err-item.ensures.value c.loop.invariant.so_far in
    rw (p.1, p.2) (subst (λ (s : Spot). items_at 0 c.args.count s ≡ Err (offset_of c.in_err-item.field-0.0)) c.loop.invariant.started failed)

pub loop-preserved : goal.loop-preserved
loop-preserved c = record {
  so_far = rw c.time_of-last.ensures (ending-goes c.loop.last c.args.count c.loop.counter c.loop.cursor (frame_item_of c.in_ok-item.item) c.read_item.new.cursor _ c.loop-test.true c.in_ok-item.ensures.value c.loop.invariant.so_far);
  onward = search rules;
  started = c.loop.invariant.started;
}

pub invariant_of-items : goal.invariant_of-items
invariant_of-items c = (ending-done c.loop.last c.args.count c.loop.counter c.loop.cursor
    (items_at 0 c.args.count c.fork-start.result) c.loop-test.false c.loop.invariant.so_far).no_fault

pub returns-clause-value : goal.returns-clause-value
returns-clause-value c =
    ap (λ (s : Spot). items_at 0 c.args.count s) (sym c.loop.invariant.started)
    ∙ (ending-done c.loop.last c.args.count c.loop.counter c.loop.cursor
    (items_at 0 c.args.count c.fork-start.result) c.loop-test.false c.loop.invariant.so_far).is_read

pub returns-clause-count : goal.returns-clause-count
returns-clause-count c = length-items 0 c.args.count c.fork-start.result (invariant_of-items c)
