-- That the formula of a declaration nests at most 64 levels is a fact with one proof, so a struct may carry it.
use denote.Struct.Props.{props}
use Rattle.nr_rule_syntax.specs.declared.tree.Decl.{Decl}
use Rattle.nr_rule_syntax.specs.declared.tree.Decl.TheVariants as decl
use Rattle.nr_rule_syntax.specs.Nesting.{IsNested}

pub nested_is_one : (d : Decl) → IsProp (IsNested d)
nested_is_one (decl.Network value span) = hlevel props
nested_is_one (decl.Commit value span) = hlevel props
nested_is_one (decl.Neighbour name asn addr key) = hlevel props
nested_is_one (decl.Group name members) = hlevel props
nested_is_one (decl.Define name patterns) = hlevel props
nested_is_one (decl.Promise name grace at form) = hlevel props
