use Rattle.std.proofs.Common.{◌≤◌, length, map}
use Rattle.nr_spec_rules.specs.declared.kind.Kind.TheVariants.{Or}
use Rattle.nr_spec_rules.specs.Parsing.{following}
use Rattle.nr_rule_syntax.specs.Reading.{conjunction, inside}
use Rattle.nr_rule_syntax.specs.Nesting.{measured, most_within}
use Rattle.nr_rule_syntax.proofs.Chains.{IsLeft}
use Rattle.nr_rule_syntax.proofs.formula.Grammar.disjuncts.Given as goal

abbrev pub invariant-more : goal.invariant-more
invariant-more g l =
    let item = conjunction l.self.levels (inside l.self.levels) in
    IsLeft Or item l.members l.tokens (following l.fn.first Or item l.fn.tokens) × (length l.tokens ≤ length l.fn.tokens)
    × (most_within 2 (map measured l.members) ≤ l.self.levels)

abbrev pub decreases-more : goal.decreases-more
decreases-more g l = length l.tokens
