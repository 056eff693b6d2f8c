use Rattle.std.proofs.Common.{◌++◌, ◌∷◌, [], ap, arith}
use Rattle.std.proofs.lemmas.Result.{err_from_is_err_and}
use Rattle.nr_spec_typing.specs.Steps.{◌<$>◌}
use Rattle.nr_rule_types.proofs.Walks.{way_more, way_fails, way_done, mapped_fails}
use Rattle.nr_rule_types.proofs.group.members.Goals as goal

pub returns-in_err-number : goal.returns-in_err-number
returns-in_err-number c =
    let p = err_from_is_err_and c.from_residual.result c.from_residual.ensures.1 in
    let m = rw c.as_slice.ensures.value at c.in_err-number.ensures in
    rw (p.1, p.2) (way_fails c.loop-text.invariant c.text-item.result c.in_err-number.field-0.0 c.loop-text-test.true c.text-item.is (mapped_fails _ _ c.in_err-number.field-0.0 m))

pub loop-text-preserved : goal.loop-text-preserved
loop-text-preserved c =
    let m = rw c.as_slice.ensures.value at c.in_ok-number.ensures in
    rw c.in_ok-push.ensures.items (way_more c.loop-text.invariant c.text-item.result (c.loop-text.numbers.items ++ c.in_ok-number.number ∷ []) c.loop-text-test.true c.text-item.is (ap (λ r. (λ n. c.loop-text.numbers.items ++ n ∷ []) <$> r) m))

pub returns : goal.returns
returns c = rw c.in_ok-from_vec.ensures (way_done c.loop-text.invariant (omega arith))
