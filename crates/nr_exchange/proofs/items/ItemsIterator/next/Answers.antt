use Rattle.std.proofs.Common.{length, sym, ap, ◌∙◌, arith}
use Rattle.nr_spec_wire.specs.Reading.{rows, fault}
use Rattle.nr_spec_wire.proofs.Steps.{steps}
use Rattle.nr_exchange.proofs.ItemSteps.{items-none, items-more, items-fault}
use Rattle.nr_spec_frames.specs.Frames.{items_at}
use Rattle.nr_bytes.specs.Views.{offset_of}
use Rattle.nr_exchange.specs.Views.{frame_item_of}
use Rattle.nr_exchange.proofs.items.ItemsIterator.next.Goals as goal

pub returns-then-self-eq0-clause-steps : goal.returns-then-self-eq0-clause-steps
returns-then-self-eq0-clause-steps c =
    let e = sym c.self.view_is ∙ ap rows (items-none c.self.inside.last c.self.inside.left c.self.inside.cursor c.if-self-eq0.true) in
    (e, e)

pub invariant_of-self : goal.invariant_of-self
invariant_of-self c = rw c.time_of-self-inside.ensures
    (steps (frame_item_of c.in-Ok.item) (items_at c.self.inside.last c.self.inside.left c.self.inside.cursor) _
    (items-more c.self.inside.last c.self.inside.left c.self.inside.cursor (frame_item_of c.in-Ok.item) c.read_item.new.cursor c.if-self-eq0.false c.in-Ok.ensures.value) c.self.invariant).step_fault

pub unreachable-requires : goal.unreachable-requires
unreachable-requires c =
    let e = ap fault (items-fault c.self.inside.last c.self.inside.left c.self.inside.cursor (offset_of c.in-Err.field-0) c.if-self-eq0.false c.in-Err.ensures.value) in
    cc (e, c.self.invariant)

pub returns-clause-steps : goal.returns-clause-steps
returns-clause-steps c = rw c.time_of-self-inside.ensures (
    sym c.self.view_is ∙ (steps (frame_item_of c.in-Ok.item) (items_at c.self.inside.last c.self.inside.left c.self.inside.cursor) _
    (items-more c.self.inside.last c.self.inside.left c.self.inside.cursor (frame_item_of c.in-Ok.item) c.read_item.new.cursor c.if-self-eq0.false c.in-Ok.ensures.value) c.self.invariant).step_rows)

pub returns-clause-goes : goal.returns-clause-goes
returns-clause-goes c =
    record { on = λ _. (tt, tt, omega (arith, ap length (returns-clause-steps c))); keeps = tt; rests = λ _. tt }
