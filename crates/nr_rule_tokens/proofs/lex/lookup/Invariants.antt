use Rattle.std.proofs.Common.{◌≡◌, length, map}
use Rattle.nr_spec_rules.specs.Tokens.{kind_among}
use Rattle.nr_rule_tokens.proofs.lex.lookup.Given as goal

abbrev pub invariant-loop-table : goal.invariant-loop-table
invariant-loop-table l = kind_among (map (λ k. (k.0.now, k.1)) l.table) l.word ≡ kind_among (map (λ k. (k.0.now, k.1)) l.initial.table) l.word

abbrev pub decreases-loop-table : goal.decreases-loop-table
decreases-loop-table l = length l.table
