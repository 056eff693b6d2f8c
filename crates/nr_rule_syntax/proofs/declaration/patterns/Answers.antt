use Rattle.std.proofs.Common.{sym, ◌∙◌, arith}
use Rattle.std.proofs.lemmas.Result.{err_from_is_err_and}
use Rattle.nr_rule_syntax.specs.Reading.{pattern}
use Rattle.nr_rule_syntax.proofs.Chains.{left_start, left_more, left_fails, left_done, list_fails}
use Rattle.nr_spec_rules.specs.declared.kind.Kind.TheVariants.{Comma}
use Rattle.nr_rule_syntax.proofs.declaration.patterns.Goals as goal

pub returns-in_err-pattern-clause-value : goal.returns-in_err-pattern-clause-value
returns-in_err-pattern-clause-value c =
    let p = err_from_is_err_and c.from_residual.result c.from_residual.ensures.1 in
    rw (p.1, p.2) (list_fails Comma pattern c.args.tokens.now c.in_err-pattern.field-0.0 c.in_err-pattern.ensures.value)

pub more-init : goal.more-init
more-init c = (rw c.in_ok-push.ensures.ok (rw c.new-items.ensures (left_start c.args.tokens.now c.in_ok-pattern.ensures.value)), omega arith)

pub returns-in_err-pattern-2-clause-value : goal.returns-in_err-pattern-2-clause-value
returns-in_err-pattern-2-clause-value c =
    let p = err_from_is_err_and c.from_residual-in_err-pattern-2.result c.from_residual-in_err-pattern-2.ensures.1 in
    rw (p.1, p.2) (left_fails c.more.invariant.0 (sym c.sees.ensures.value ∙ c.more-test.true) c.pass.ensures.next (omega arith) c.in_err-pattern-2.field-0.0 c.in_err-pattern-2.ensures.value)

pub more-preserved : goal.more-preserved
more-preserved c =
    (rw c.in_ok-push-2.ensures.ok (left_more c.more.invariant.0 (sym c.sees.ensures.value ∙ c.more-test.true) c.pass.ensures.next (omega arith) c.in_ok-pattern-2.ensures.value), omega arith)

pub returns-clause-value : goal.returns-clause-value
returns-clause-value c = left_done c.more.invariant.0 (sym c.sees.ensures.value ∙ c.more-test.false)
