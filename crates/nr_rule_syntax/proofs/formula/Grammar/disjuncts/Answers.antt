use Rattle.std.proofs.Common.{sym, ◌∙◌, arith}
use Rattle.std.proofs.lemmas.Result.{err_from_is_err_and}
use Rattle.nr_rule_syntax.proofs.Depths.{most_one, most_more}
use Rattle.nr_rule_syntax.proofs.Chains.{left_first, left_more, left_fails, left_done}
use Rattle.nr_rule_syntax.proofs.formula.Grammar.disjuncts.Goals as goal

pub more-init : goal.more-init
more-init g c = (rw c.in_ok-push.ensures.ok (rw c.new-members.ensures (left_first c.args.first c.args.tokens.now)), omega arith, rw c.in_ok-push.ensures.ok (rw c.new-members.ensures (most_one 2 c.args.first c.args.self.now.levels c.requires.fits)))

pub returns-in_err-conjunction-clause-value : goal.returns-in_err-conjunction-clause-value
returns-in_err-conjunction-clause-value g c =
    let p = err_from_is_err_and c.from_residual-in_err-conjunction.result c.from_residual-in_err-conjunction.ensures.1 in
    rw (p.1, p.2) (left_fails c.more.invariant.0 (sym c.sees.ensures.value ∙ c.more-test.true) c.pass.ensures.next (omega arith) c.in_err-conjunction.field-0.0 c.in_err-conjunction.ensures.value)

pub more-preserved : goal.more-preserved
more-preserved g c =
    (rw c.in_ok-push-2.ensures.ok (left_more c.more.invariant.0 (sym c.sees.ensures.value ∙ c.more-test.true) c.pass.ensures.next (omega arith) c.in_ok-conjunction.ensures.value), omega arith, rw c.in_ok-push-2.ensures.ok (most_more 2 c.more.members c.in_ok-conjunction.field-0 c.args.self.now.levels c.more.invariant.2 c.in_ok-conjunction.ensures.nests))

pub returns-clause-value : goal.returns-clause-value
returns-clause-value g c = left_done c.more.invariant.0 (sym c.sees.ensures.value ∙ c.more-test.false)
