use Rattle.std.proofs.Common.{length, sym, ap, ◌∙◌, arith}
use Rattle.nr_spec_wire.specs.Reading.{rows, fault}
use Rattle.nr_spec_wire.proofs.Steps.{steps}
use Rattle.nr_spec_evidence.specs.Counted.{counted_at}
use Rattle.nr_spec_evidence.specs.Evidence.{claim_at}
use Rattle.nr_bytes.specs.Views.{offset_of}
use Rattle.nr_evidence.specs.Views.{claim_of}
use Rattle.nr_evidence_file.proofs.Steps.{counted-none, counted-more, counted-fault}
use Rattle.nr_evidence_file.proofs.claims.ClaimsIterator.next.Goals as goal

pub returns-then-self-eq0-clause-steps : goal.returns-then-self-eq0-clause-steps
returns-then-self-eq0-clause-steps c =
    let e = sym c.self.view_is ∙ ap rows (counted-none claim_at c.self.inside.left c.self.inside.cursor c.if-self-eq0.true) in
    (e, e)

pub invariant_of-self : goal.invariant_of-self
invariant_of-self c =
    (steps (claim_of c.in-Ok.claim) (counted_at claim_at c.self.inside.left c.self.inside.cursor) _
    (counted-more claim_at c.self.inside.left c.self.inside.cursor (claim_of c.in-Ok.claim) c.read_claim.new.cursor c.if-self-eq0.false c.in-Ok.ensures.value) c.self.invariant).step_fault

pub unreachable-requires : goal.unreachable-requires
unreachable-requires c =
    let e = ap fault (counted-fault claim_at c.self.inside.left c.self.inside.cursor (offset_of c.in-Err.field-0) c.if-self-eq0.false c.in-Err.ensures.value) in
    cc (e, c.self.invariant)

pub returns-clause-steps : goal.returns-clause-steps
returns-clause-steps c =
    sym c.self.view_is ∙ (steps (claim_of c.in-Ok.claim) (counted_at claim_at c.self.inside.left c.self.inside.cursor) _
    (counted-more claim_at c.self.inside.left c.self.inside.cursor (claim_of c.in-Ok.claim) c.read_claim.new.cursor c.if-self-eq0.false c.in-Ok.ensures.value) c.self.invariant).step_rows

pub returns-clause-goes : goal.returns-clause-goes
returns-clause-goes c =
    record { on = λ _. (tt, tt, omega (arith, ap length (returns-clause-steps c))); keeps = tt; rests = λ _. tt }
