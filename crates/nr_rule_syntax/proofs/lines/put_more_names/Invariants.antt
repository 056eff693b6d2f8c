use Rattle.std.proofs.Common.{◌≡◌, ◌++◌, map, drop, codes}
use Rattle.nr_rule_syntax.specs.Printing.{each_behind, name_text}
use Rattle.nr_rule_syntax.proofs.lines.put_more_names.Given as goal

abbrev pub invariant-loop-at : goal.invariant-loop-at
invariant-loop-at l =
    l.out.items ++ each_behind (codes ", ") (map name_text (drop l.at l.names))
    ≡ l.initial.out.items ++ each_behind (codes ", ") (map name_text (drop 1 l.names))
