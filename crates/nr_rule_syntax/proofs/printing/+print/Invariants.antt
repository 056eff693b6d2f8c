use Rattle.std.proofs.Common.{◌≡◌, ◌++◌, map, drop}
use Rattle.nr_rule_syntax.specs.Printing.{each_behind, within, printed}
use Rattle.nr_rule_syntax.proofs.printing.+print.Given as goal

abbrev pub invariant-put_more-loop-at : goal.invariant-put_more-loop-at
invariant-put_more-loop-at l =
    l.out.items ++ each_behind l.between (map (λ m. within l.least (printed m)) (drop l.at l.members))
    ≡ l.initial.out.items ++ each_behind l.between (map (λ m. within l.least (printed m)) (drop 1 l.members))
