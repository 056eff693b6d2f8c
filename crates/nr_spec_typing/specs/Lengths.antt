-- That the prefixes of sets are no longer than 32 bits. A prefix that a program holds is so by its type; of a tree that
-- is a plain value it has to be said.
use Rattle.std.specs.Prelude.{◌≤◌}
use Rattle.std.specs.List.{All}
use Rattle.nr_rule_syntax.specs.declared.tree.PatternText.{PatternText}
use Rattle.nr_rule_syntax.specs.declared.tree.Decl.{Decl}
use Rattle.nr_rule_syntax.specs.declared.tree.Decl.TheVariants as decls

abbrev pub FitsLength : PatternText → Type 0
FitsLength p = p.prefix.len ≤ 32

abbrev pub FitsLengths : Decl → Type 0
FitsLengths (decls.Network value span) = Unit {0}
FitsLengths (decls.Commit value span) = Unit {0}
FitsLengths (decls.Neighbour name asn addr key) = Unit {0}
FitsLengths (decls.Group name members) = Unit {0}
FitsLengths (decls.Define name patterns) = All FitsLength patterns
FitsLengths (decls.Promise name grace at form) = Unit {0}
