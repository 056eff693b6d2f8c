use Rattle.std.proofs.Common.{◌≡◌, sym, ap, subst, ◌∙◌, Err, rules}
use Rattle.std.proofs.lemmas.Result.{err_from_is_err_and}
use Rattle.nr_spec_wire.specs.Reading.{Spot}
use Rattle.nr_spec_evidence.specs.Counted.{counted_at}
use Rattle.nr_spec_evidence.specs.Evidence.{claim_at}
use Rattle.nr_bytes.specs.Views.{offset_of}
use Rattle.nr_evidence_file.proofs.Steps.{stop-goes, stop-fails, stop-done}
use Rattle.nr_evidence_file.proofs.claims.read_claims.Goals as goal

pub returns-in_err-pass_claim-clause-value : goal.returns-in_err-pass_claim-clause-value
returns-in_err-pass_claim-clause-value c =
    let p = err_from_is_err_and c.from_residual.result c.from_residual.ensures.1 in
    let failed = stop-fails claim_at c.args.count c.loop.counter c.loop.cursor (offset_of c.in_err-pass_claim.field-0.0)
    (counted_at claim_at c.args.count c.fork-start.result) c.loop-test.true c.in_err-pass_claim.ensures.value c.loop.invariant.so_far in
    rw (p.1, p.2) (subst (λ (s : Spot). counted_at claim_at c.args.count s ≡ Err (offset_of c.in_err-pass_claim.field-0.0)) c.loop.invariant.started failed)

pub loop-preserved : goal.loop-preserved
loop-preserved c =
    let v = c.in_ok-pass_claim.ensures.value in
    record {
      so_far = stop-goes claim_at c.args.count c.loop.counter c.loop.cursor v.0 c.pass_claim.new.cursor _ c.loop-test.true v.1 c.loop.invariant.so_far;
      onward = search rules;
      started = c.loop.invariant.started;
    }

pub invariant_of-result : goal.invariant_of-result
invariant_of-result c = (stop-done claim_at c.args.count c.loop.counter c.loop.cursor (counted_at claim_at c.args.count c.fork-start.result) c.loop-test.false c.loop.invariant.so_far).no_fault

pub returns-clause-value : goal.returns-clause-value
returns-clause-value c =
    ap (λ (s : Spot). counted_at claim_at c.args.count s) (sym c.loop.invariant.started)
    ∙ (stop-done claim_at c.args.count c.loop.counter c.loop.cursor (counted_at claim_at c.args.count c.fork-start.result) c.loop-test.false c.loop.invariant.so_far).is_read
