use Rattle.std.proofs.Common.{arith, rules}
use Rattle.std.proofs.lemmas.Grind.{common_steps}
use Rattle.nr_spec_rules.specs.Figures.{number_to}
use Rattle.nr_rule_tokens.proofs.Worth.{too_large}
use Rattle.nr_rule_tokens.proofs.figure.number_to.Goals as goal

pub returns-then-n-from-clause-value : goal.returns-then-n-from-clause-value
unfolding number_to
returns-then-n-from-clause-value c =
    let e = too_large c.args.text.now c.loop-digit.digit-index c.loop-digit.n c.args.most (omega arith) c.loop-digit.invariant.0 (omega arith) in
    first_of (search rules, grind (arith, common_steps))
