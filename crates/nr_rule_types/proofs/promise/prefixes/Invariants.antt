use Rattle.std.proofs.Common.{◌≡◌, map, take}
use Rattle.nr_rule_types.proofs.promise.prefixes.Given as goal

abbrev pub invariant-loop-text : goal.invariant-loop-text
invariant-loop-text l = l.prefixes ≡ map (λ p. p.prefix) (take l.text-index l.texts)
