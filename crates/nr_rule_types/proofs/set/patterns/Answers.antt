use Rattle.std.proofs.lemmas.Result.{err_from_is_err_and}
use Rattle.std.proofs.Common.{arith}
use Rattle.nr_spec_typing.specs.Lengths.{FitsLength}
use Rattle.nr_rule_types.proofs.Walks.{so_far_more, so_far_fails, so_far_done, all_so_far, all_of_whole}
use Rattle.nr_rule_types.proofs.set.patterns.Goals as goal

pub returns-in_err-pattern-clause-value : goal.returns-in_err-pattern-clause-value
returns-in_err-pattern-clause-value c =
    let p = err_from_is_err_and c.from_residual.result c.from_residual.ensures.1 in
    rw (p.1, p.2) (so_far_fails c.loop-text.invariant.0 c.text-item.result c.in_err-pattern.field-0.0 c.loop-text-test.true c.text-item.is c.in_err-pattern.ensures.value)

pub loop-text-preserved : goal.loop-text-preserved
loop-text-preserved c = (
  rw c.in_ok-push.ensures.items (so_far_more c.loop-text.invariant.0 c.text-item.result _ c.loop-text-test.true c.text-item.is c.in_ok-pattern.ensures.value),
  all_so_far FitsLength c.args.texts.now c.loop-text.text-index c.text-item.result c.loop-text-test.true c.text-item.is c.loop-text.invariant.1 c.in_ok-pattern.ensures.range,
)

pub returns-clause-value : goal.returns-clause-value
returns-clause-value c = rw c.in_ok-from_vec.ensures (so_far_done c.loop-text.invariant.0 (omega arith))

pub returns-clause-range : goal.returns-clause-range
returns-clause-range c = all_of_whole FitsLength c.args.texts.now c.loop-text.text-index (omega arith) c.loop-text.invariant.1
