use Rattle.std.proofs.Common.{◌≡◌, ◌++◌, map, drop}
use Rattle.nr_rule_syntax.specs.Printing.{spelled, declaration_text, file_text}
use Rattle.nr_rule_syntax.proofs.lines.print.Given as goal

abbrev pub invariant-loop-declaration : goal.invariant-loop-declaration
invariant-loop-declaration l = l.out.items ++ spelled (map declaration_text (drop l.declaration-index l.file.decls)) ≡ file_text l.file
