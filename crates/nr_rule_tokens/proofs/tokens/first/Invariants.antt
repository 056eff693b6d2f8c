use Rattle.std.proofs.Common.{◌≡◌, ◌+◌, length}
use Rattle.nr_spec_rules.specs.Tokens.{tokens_at}
use Rattle.nr_rule_tokens.proofs.tokens.first.Given as goal

abbrev pub invariant-gaps : goal.invariant-gaps
invariant-gaps l = (tokens_at l.from l.text ≡ tokens_at l.initial.from l.initial.text) × (l.from + length l.text ≡ l.initial.from + length l.initial.text)

abbrev pub decreases-gaps : goal.decreases-gaps
decreases-gaps l = length l.text
