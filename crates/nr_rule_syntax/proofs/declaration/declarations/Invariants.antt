use Rattle.std.proofs.Common.{length}
use Rattle.nr_spec_rules.specs.declared.kind.Kind.TheVariants.{End}
use Rattle.std.specs.List.{All}
use Rattle.nr_rule_syntax.specs.Nesting.{IsNested}
use Rattle.nr_rule_syntax.specs.Reading.{declaration, declarations}
use Rattle.nr_rule_syntax.proofs.Chains.{IsLeftUntil}
use Rattle.nr_rule_syntax.proofs.declaration.declarations.Given as goal

abbrev pub invariant-more : goal.invariant-more
invariant-more l = IsLeftUntil End declaration l.items l.tokens (declarations l.fn.tokens) × All IsNested l.items

abbrev pub decreases-more : goal.decreases-more
decreases-more l = length l.tokens
