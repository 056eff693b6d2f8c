use Rattle.std.proofs.Common.{arith}
use Rattle.std.proofs.lemmas.Result.{err_from_is_err_and}
use Rattle.nr_spec_typing.specs.Lengths.{FitsLengths}
use Rattle.nr_rule_types.proofs.Walks.{way_more, way_fails, way_done, all_so_far, all_of_whole}
use Rattle.nr_rule_types.proofs.declaration.declarations.Goals as goal

pub returns-in_err-declaration-clause-value : goal.returns-in_err-declaration-clause-value
returns-in_err-declaration-clause-value c =
    let p = err_from_is_err_and c.from_residual.result c.from_residual.ensures.1 in
    rw (p.1, p.2) (way_fails c.loop-decl.invariant.0 c.decl-item.result c.in_err-declaration.field-0.0 c.loop-decl-test.true c.decl-item.is c.in_err-declaration.ensures.value)

pub loop-decl-preserved : goal.loop-decl-preserved
loop-decl-preserved c = (
  way_more c.loop-decl.invariant.0 c.decl-item.result _ c.loop-decl-test.true c.decl-item.is c.in_ok-declaration.ensures.value,
  all_so_far FitsLengths c.args.decls.now c.loop-decl.decl-index c.decl-item.result c.loop-decl-test.true c.decl-item.is c.loop-decl.invariant.1 c.in_ok-declaration.ensures.range,
)

pub returns-clause-value : goal.returns-clause-value
returns-clause-value c = way_done c.loop-decl.invariant.0 (omega arith)

pub returns-clause-range : goal.returns-clause-range
returns-clause-range c = all_of_whole FitsLengths c.args.decls.now c.loop-decl.decl-index (omega arith) c.loop-decl.invariant.1
