-- What the names in a formula stand for: the names that were declared before it, and the variables that are
-- bound around their place. A fault is at the name.
use Rattle.std.specs.Prelude.{ℕ, Bool, true, false, ◌&&◌, not, List, [], ◌∷◌, ◌++◌, position, Option, Some, None, is_none, Result, Ok, Err, if◌then◌else◌}
use Rattle.std.specs.List.{list_any}
use Rattle.std.specs.Str.{bytes_eq}
use Rattle.nr_prefix.specs.declared.set.Pattern.{Pattern}
use Rattle.nr_spec_wire.specs.Reading.{wants}
use Rattle.nr_rule_syntax.specs.declared.tree.Name.{Name}
use Rattle.nr_spec_typing.specs.declared.name.Named.{Named}
use Rattle.nr_spec_typing.specs.declared.name.Named.TheVariants as named
use Rattle.nr_spec_typing.specs.declared.name.Declared.{Declared}
use Rattle.nr_spec_typing.specs.declared.name.Bound.{Bound}
use Rattle.nr_spec_typing.specs.declared.name.Bound.TheVariants.{Neighbour, Route}
use Rattle.nr_spec_typing.specs.declared.name.Variable.{Variable}
use Rattle.nr_spec_typing.specs.declared.tree.Who.{Who}
use Rattle.nr_spec_typing.specs.declared.tree.Who.TheVariants as whos

-- what a declared name stands for
abbrev pub meaning : List Declared → List ℕ → Option Named
meaning [] word = None
meaning (d ∷ names) word = if bytes_eq d.word word then Some d.means else meaning names word

-- the names declared so far, in order, and the variables bound at a place, the outermost first
pub record Scope : Type 0 where
  pub names : List Declared
  pub variables : List Variable

abbrev pub same_bound : Bound → Bound → Bool
same_bound Neighbour Neighbour = true
same_bound Route Route = true
same_bound _ _ = false

-- whether a variable has this name and stands for this
abbrev pub is_called : Bound → List ℕ → Variable → Bool
is_called bound word v = bytes_eq v.word word && same_bound v.bound bound

-- the number of the variable with this name, which stands for this: how many are bound outside it
abbrev pub variable : Bound → List Variable → List ℕ → Option ℕ
variable bound variables word = position (is_called bound word) variables

-- ---- a name is used by its kind

abbrev pub who_by : ℕ → Option ℕ → Option Named → Result Who ℕ
who_by place (Some n) _ = Ok (whos.Var n)
who_by place None (Some (named.Neighbour n)) = Ok (whos.Named n)
who_by place None _ = Err place

-- a neighbour: a variable that stands for one, or its name
unfoldable pub who : Scope → Name → Result Who ℕ
who s name = who_by name.span.from (variable Neighbour s.variables name.word) (meaning s.names name.word)

abbrev pub route_by : ℕ → Option ℕ → Result ℕ ℕ
route_by place (Some n) = Ok n
route_by place None = Err place

-- a route: a variable that stands for one
unfoldable pub route : Scope → Name → Result ℕ ℕ
route s name = route_by name.span.from (variable Route s.variables name.word)

abbrev pub group_by : ℕ → Option Named → Result (List ℕ) ℕ
group_by place (Some (named.Group members)) = Ok members
group_by place _ = Err place

-- the numbers of a group's neighbours
unfoldable pub group : Scope → Name → Result (List ℕ) ℕ
group s name = group_by name.span.from (meaning s.names name.word)

abbrev pub set_by : ℕ → Option Named → Result (List Pattern) ℕ
set_by place (Some (named.Define patterns)) = Ok patterns
set_by place _ = Err place

-- the patterns of a set of prefixes
unfoldable pub set : Scope → Name → Result (List Pattern) ℕ
set s name = set_by name.span.from (meaning s.names name.word)

-- ---- a variable is bound

-- no name that was declared before it, and no variable in whose scope it stands, has its name
abbrev pub is_fresh : Scope → List ℕ → Bool
is_fresh s word = is_none (meaning s.names word) && not (list_any (λ v. bytes_eq v.word word) s.variables)

-- the name of a new variable
unfoldable pub new_variable : Scope → Name → Result Name ℕ
new_variable s name = wants (is_fresh s name.word) name.span.from name

-- the scope of a variable, which stands for this
abbrev pub bind : Scope → Bound → Name → Scope
bind s bound name = record s { variables = s.variables ++ record { word = name.word; bound = bound } ∷ [] }
