use Rattle.std.proofs.Common.{◌≤◌, length}
use Rattle.nr_spec_rules.specs.declared.kind.Kind.TheVariants.{Comma}
use Rattle.nr_spec_rules.specs.Parsing.{list}
use Rattle.nr_rule_syntax.specs.Reading.{prefix}
use Rattle.nr_rule_syntax.proofs.Chains.{IsLeft}
use Rattle.nr_rule_syntax.proofs.declaration.prefixes.Given as goal

abbrev pub invariant-more : goal.invariant-more
invariant-more l = IsLeft Comma prefix l.items l.tokens (list Comma prefix l.fn.tokens) × (length l.tokens ≤ length l.fn.tokens)

abbrev pub decreases-more : goal.decreases-more
decreases-more l = length l.tokens
