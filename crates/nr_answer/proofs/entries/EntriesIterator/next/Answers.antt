use Rattle.std.proofs.Common.{length, sym, ap, ◌∙◌, arith}
use Rattle.nr_spec_wire.specs.Reading.{rows, fault}
use Rattle.nr_spec_wire.proofs.Steps.{steps}
use Rattle.nr_spec_log.proofs.EntrySteps.{entries-none, entries-more, entries-fault}
use Rattle.nr_spec_log.specs.Answer.{entries_at}
use Rattle.nr_bytes.specs.Views.{offset_of}
use Rattle.nr_chain.specs.Views.{entry_of}
use Rattle.nr_answer.proofs.entries.EntriesIterator.next.Goals as goal

pub returns-then-self-eq0-clause-steps : goal.returns-then-self-eq0-clause-steps
returns-then-self-eq0-clause-steps c =
    let e = sym c.self.view_is ∙ ap rows (entries-none c.self.inside.checkpoint c.self.inside.last c.self.inside.left c.self.inside.cursor c.if-self-eq0.true) in
    (e, e)

pub invariant_of-self : goal.invariant_of-self
invariant_of-self c =
    (steps (entry_of c.in-Ok.entry) (entries_at c.self.inside.checkpoint c.self.inside.last c.self.inside.left c.self.inside.cursor) _
    (entries-more c.self.inside.checkpoint c.self.inside.last c.self.inside.left c.self.inside.cursor (entry_of c.in-Ok.entry) c.read_entry.new.cursor c.if-self-eq0.false c.in-Ok.ensures.value) c.self.invariant).step_fault

pub unreachable-requires : goal.unreachable-requires
unreachable-requires c =
    let e = ap fault (entries-fault c.self.inside.checkpoint c.self.inside.last c.self.inside.left c.self.inside.cursor (offset_of c.in-Err.field-0) c.if-self-eq0.false c.in-Err.ensures.value) in
    cc (e, c.self.invariant)

pub returns-clause-steps : goal.returns-clause-steps
returns-clause-steps c =
    sym c.self.view_is ∙ (steps (entry_of c.in-Ok.entry) (entries_at c.self.inside.checkpoint c.self.inside.last c.self.inside.left c.self.inside.cursor) _
    (entries-more c.self.inside.checkpoint c.self.inside.last c.self.inside.left c.self.inside.cursor (entry_of c.in-Ok.entry) c.read_entry.new.cursor c.if-self-eq0.false c.in-Ok.ensures.value) c.self.invariant).step_rows

pub returns-clause-goes : goal.returns-clause-goes
returns-clause-goes c =
    record { on = λ _. (tt, tt, omega (arith, ap length (returns-clause-steps c))); keeps = tt; rests = λ _. tt }
