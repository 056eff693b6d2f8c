use Rattle.std.proofs.Common.{length, sym, ap, ◌∙◌, arith}
use Rattle.nr_spec_wire.specs.Reading.{rows, fault, rows_at}
use Rattle.nr_spec_wire.proofs.Steps.{steps, values-spent, values-end, values-more, values-fault}
use Rattle.nr_spec_frames.specs.Frames.{framed_at}
use Rattle.nr_bytes.specs.Views.{offset_of}
use Rattle.nr_exchange.proofs.files.FrameIterIterator.next.Goals as goal
use Rattle.nr_exchange.proofs.files.FrameIterIterator.next.Goals.{then-self-eq0-via-then-self-eq0, then-self-eq0-via-else-self-eq0+then-left-eq0}

pub returns-then-self-eq0-clause-steps : goal.returns-then-self-eq0-clause-steps
returns-then-self-eq0-clause-steps c =
    elim c.then-self-eq0.branch [
      | then-self-eq0-via-then-self-eq0 w ↦
          let e = sym c.self.view_is ∙ ap rows (values-spent framed_at c.self.inside.fuel c.self.inside.cursor w.if-self-eq0.true) in (e, e)
      | then-self-eq0-via-else-self-eq0+then-left-eq0 w ↦
          let e = sym c.self.view_is ∙ ap rows (values-end framed_at c.self.inside.fuel c.self.inside.cursor (sym w.left.ensures ∙ w.if-left-eq0.true)) in (e, e)
    ]

pub invariant_of-self : goal.invariant_of-self
invariant_of-self c =
    (steps c.in-Ok.bytes.now (rows_at framed_at c.self.inside.fuel c.self.inside.cursor) _
    (values-more framed_at c.self.inside.fuel c.self.inside.cursor c.in-Ok.bytes.now c.read_framed.new.cursor c.if-self-eq0.false (λ z. c.if-left-eq0.false (c.left.ensures ∙ z)) c.in-Ok.ensures.value)
    c.self.invariant).step_fault

pub unreachable-requires : goal.unreachable-requires
unreachable-requires c =
    let e = ap fault (values-fault framed_at c.self.inside.fuel c.self.inside.cursor (offset_of c.in-Err.field-0) c.if-self-eq0.false (λ z. c.if-left-eq0.false (c.left.ensures ∙ z)) c.in-Err.ensures.value) in
    cc (e, c.self.invariant)

pub returns-clause-steps : goal.returns-clause-steps
returns-clause-steps c =
    sym c.self.view_is ∙ (steps c.in-Ok.bytes.now (rows_at framed_at c.self.inside.fuel c.self.inside.cursor) _
    (values-more framed_at c.self.inside.fuel c.self.inside.cursor c.in-Ok.bytes.now c.read_framed.new.cursor c.if-self-eq0.false (λ z. c.if-left-eq0.false (c.left.ensures ∙ z)) c.in-Ok.ensures.value)
    c.self.invariant).step_rows

pub returns-clause-goes : goal.returns-clause-goes
returns-clause-goes c =
    record { on = λ _. (tt, tt, omega (arith, ap length (returns-clause-steps c))); keeps = tt; rests = λ _. tt }
