use Rattle.std.proofs.Common.{sym, ◌∙◌}
use Rattle.std.proofs.lemmas.Result.{err_from_is_err_and}
use Rattle.std.proofs.lemmas.List.Elements.{All-nil, All-push}
use Rattle.nr_rule_syntax.specs.Nesting.{IsNested}
use Rattle.nr_rule_syntax.proofs.Chains.{until_start, until_more, until_fails, until_done}
use Rattle.nr_rule_syntax.proofs.declaration.declarations.Goals as goal

pub more-init : goal.more-init
more-init c = rw c.new-items.ensures (until_start c.args.tokens.now, All-nil IsNested)

pub returns-in_err-declaration-clause-value : goal.returns-in_err-declaration-clause-value
returns-in_err-declaration-clause-value c =
    let p = err_from_is_err_and c.from_residual.result c.from_residual.ensures.1 in
    rw (p.1, p.2) (until_fails c.more.invariant.0 (sym c.sees.ensures.value ∙ c.more-test.true) c.in_err-declaration.field-0.0 c.in_err-declaration.ensures.value)

pub more-preserved : goal.more-preserved
more-preserved c =
    rw c.in_ok-push.ensures.ok (
      until_more c.more.invariant.0 (sym c.sees.ensures.value ∙ c.more-test.true) c.in_ok-declaration.ensures.shorter c.in_ok-declaration.ensures.value,
      All-push IsNested c.more.items c.in_ok-declaration.field-0 c.more.invariant.1 c.in_ok-declaration.ensures.nests,
    )

pub returns-clause-value : goal.returns-clause-value
returns-clause-value c = until_done c.more.invariant.0 (sym c.sees.ensures.value ∙ c.more-test.false)
