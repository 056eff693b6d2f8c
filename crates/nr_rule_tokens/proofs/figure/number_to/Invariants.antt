use Rattle.std.proofs.Common.{◌≡◌, ◌≤◌, drop}
use Rattle.nr_spec_rules.specs.Figures.{worth_from}
use Rattle.nr_rule_tokens.proofs.figure.number_to.Given as goal

abbrev pub invariant-loop-digit : goal.invariant-loop-digit
invariant-loop-digit l = (worth_from l.n (drop l.digit-index l.text) ≡ worth_from 0 l.text) × (l.n ≤ l.most)
