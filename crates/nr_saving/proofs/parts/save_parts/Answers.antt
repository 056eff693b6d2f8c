use Rattle.std.proofs.Common.{[], length, map, ◌<◌, ap, arith}
use Rattle.std.proofs.lemmas.List.{length-map}
use Rattle.std.proofs.lemmas.Result.{err_from_is_err_and}
use Rattle.nr_saving.proofs.Steps.{begins, ends, ends_within, goes_on, not_begun, part_at, stops}
use Rattle.nr_saving.proofs.parts.save_parts.Goals as goal

pub returns-in_err-cut : goal.returns-in_err-cut
returns-in_err-cut g c =
    let p = err_from_is_err_and c.from_residual.result c.from_residual.ensures.1 in
    rw (p.1, p.2) (not_begun c.args.name.now _ _ _ _ c.in_err-cut.ensures)

pub loop-i-init : goal.loop-i-init
loop-i-init g c = begins c.args.name.now (map (λ part. part.now) c.args.parts.now) _ _ c.in_ok-cut.ensures

pub write_at-requires : goal.write_at-requires
write_at-requires g c = c.loop-i.invariant.room

pub returns-in_err-write_at : goal.returns-in_err-write_at
returns-in_err-write_at g c =
    let p = err_from_is_err_and c.from_residual-in_err-write_at.result c.from_residual-in_err-write_at.ensures.1 in
    let less : c.loop-i.i < length (map (λ part. part.now) c.args.parts.now) = omega (arith, length-map c.args.parts.now (λ part. part.now), c.loop-i-test.true) in
    rw (p.1, p.2) (stops c.args.name.now _ _ _ _ _ _ _ _ less (part_at (λ part. part.now) c.args.parts.now c.loop-i.i _ c.loop-i-test.true) c.loop-i.invariant c.in_err-write_at.ensures)

pub overflow_add-at : goal.overflow_add-at
overflow_add-at g c =
    let less : c.loop-i.i < length (map (λ part. part.now) c.args.parts.now) = omega (arith, length-map c.args.parts.now (λ part. part.now), c.loop-i-test.true) in
    let end = ends_within c.args.name.now (map (λ part. part.now) c.args.parts.now) _ _ c.loop-i.at c.loop-i.i less c.loop-i.invariant in
    let size = ap length (part_at (λ part. part.now) c.args.parts.now c.loop-i.i (record { ref_ptr = (0, 0); now = [] }) c.loop-i-test.true) in
    omega (arith, end, size, c.requires)

pub loop-i-preserved : goal.loop-i-preserved
loop-i-preserved g c =
    let less : c.loop-i.i < length (map (λ part. part.now) c.args.parts.now) = omega (arith, length-map c.args.parts.now (λ part. part.now), c.loop-i-test.true) in
    goes_on c.args.name.now _ _ _ _ _ _ _ less (part_at (λ part. part.now) c.args.parts.now c.loop-i.i _ c.loop-i-test.true) c.loop-i.invariant c.in_ok-write_at.ensures

pub returns : goal.returns
returns g c =
    ends c.args.name.now _ _ _ _ _ _ c.sync.result (omega (arith, length-map c.args.parts.now (λ part. part.now), c.loop-i-test.false)) c.loop-i.invariant c.sync.ensures
