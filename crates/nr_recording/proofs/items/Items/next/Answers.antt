use Rattle.std.proofs.Common.{◌≡◌, length, sym, ap, ◌∙◌, arith}
use Rattle.nr_spec_wire.specs.Reading.{Spot, rows, fault, rows_at}
use Rattle.nr_spec_wire.proofs.Steps.{steps, values-spent, values-end, values-more, values-fault}
use Rattle.nr_spec_bgp.specs.Records.{record_at}
use Rattle.nr_bytes.specs.Views.{offset_of}
use Rattle.nr_mrt.specs.Views.{item_of}
use Rattle.nr_recording.proofs.items.Items.next.Goals as goal

pub returns-then-self-eq0 : goal.returns-then-self-eq0
returns-then-self-eq0 c =
    let e = sym c.self.view_is ∙ ap rows (values-spent record_at c.self.inside.fuel c.self.inside.cursor c.if-self-eq0.true) in (e, e)

pub returns-in-None : goal.returns-in-None
returns-in-None c =
    let none = c.in-None.ensures.value in
    let end : length c.next.new.cursor.rest ≡ 0 = ap (λ (s : Spot). length s.rest) none.1 ∙ none.0 in
    (sym c.self.view_is ∙ ap rows (values-end record_at c.self.inside.fuel c.self.inside.cursor none.0), ap rows (values-end record_at c.self.inside.fuel c.next.new.cursor end))

pub unreachable-requires : goal.unreachable-requires
unreachable-requires c =
    let failed = rw c.in-Some-Err.field-0-is at c.in-Some-Err.ensures.value in
    let e = ap fault (values-fault record_at c.self.inside.fuel c.self.inside.cursor (offset_of c.in-Some-Err.field-0-0) c.if-self-eq0.false (λ z. omega (arith, failed.0, z)) failed.1.0) in
    cc (e, c.self.invariant)

pub invariant_of-self-in-Some-Ok : goal.invariant_of-self-in-Some-Ok
invariant_of-self-in-Some-Ok c =
    let read = rw c.in-Some-Ok.field-0-is at c.in-Some-Ok.ensures.value in
    (steps (item_of c.in-Some-Ok.item) (rows_at record_at c.self.inside.fuel c.self.inside.cursor) _
    (values-more record_at c.self.inside.fuel c.self.inside.cursor (item_of c.in-Some-Ok.item) c.next.new.cursor c.if-self-eq0.false (λ z. omega (arith, read.0, z)) read.1)
    c.self.invariant).step_fault

pub returns-in-Some-Ok : goal.returns-in-Some-Ok
returns-in-Some-Ok c =
    let read = rw c.in-Some-Ok.field-0-is at c.in-Some-Ok.ensures.value in
    sym c.self.view_is ∙ (steps (item_of c.in-Some-Ok.item) (rows_at record_at c.self.inside.fuel c.self.inside.cursor) _
    (values-more record_at c.self.inside.fuel c.self.inside.cursor (item_of c.in-Some-Ok.item) c.next.new.cursor c.if-self-eq0.false (λ z. omega (arith, read.0, z)) read.1)
    c.self.invariant).step_rows
