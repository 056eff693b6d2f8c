use Rattle.std.proofs.Common.{◌≡◌, ◌-◌, refl, arith}
use Rattle.nr_rule_syntax.specs.declared.formula.Level.TheVariants.{Whole, Member}
use Rattle.nr_rule_syntax.specs.Reading.{inside, formula, negation}
use Rattle.nr_rule_syntax.proofs.Chains.{deeper}
use Rattle.nr_rule_syntax.proofs.formula.+inside.Goals as goal

pub returns-then-levels-eq0-clause-value : goal.returns-then-levels-eq0-clause-value
unfolding inside
returns-then-levels-eq0-clause-value t c = let none : c.args.levels ≡ 0 = omega arith in rw (none, c.refused.ensures) refl

pub returns-in-Whole-clause-value : goal.returns-in-Whole-clause-value
unfolding inside
returns-in-Whole-clause-value t c =
    let ts = c.args.tokens.now in
    let e : inside c.args.levels Whole ts ≡ formula (c.args.levels - 1) (inside (c.args.levels - 1)) ts = deeper (λ n. inside n Whole ts) c.args.levels (omega arith) in
    rw (c.in-Whole.is, e) c.formula.ensures.value

pub returns-in-Member-clause-value : goal.returns-in-Member-clause-value
unfolding inside
returns-in-Member-clause-value t c =
    let ts = c.args.tokens.now in
    let e : inside c.args.levels Member ts ≡ negation (c.args.levels - 1) (inside (c.args.levels - 1)) ts = deeper (λ n. inside n Member ts) c.args.levels (omega arith) in
    rw (c.in-Member.is, e) c.negation.ensures.value
