use Rattle.nr_rule_syntax.proofs.formula.+inside.Given as goal

abbrev pub decreases-inside : goal.decreases-inside
decreases-inside l = l.levels
