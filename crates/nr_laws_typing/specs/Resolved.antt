-- What a name in a formula is resolved to: the variable around it that has this name, by how many are bound outside it,
-- or the neighbour that was declared by this name.
use Rattle.std.specs.Prelude.{◌≡◌, ℕ, length, slice_get, Some, Ok}
use Rattle.nr_rule_syntax.specs.declared.tree.Name.{Name}
use Rattle.nr_spec_typing.specs.declared.name.Bound.{Bound}
use Rattle.nr_spec_typing.specs.declared.name.Bound.TheVariants.{Neighbour, Route}
use Rattle.nr_spec_typing.specs.declared.name.Variable.{Variable}
use Rattle.nr_spec_typing.specs.declared.tree.Who.TheVariants as whos
use Rattle.nr_spec_typing.specs.Scopes.{Scope, who, route, bind}
use Rattle.nr_spec_typing.specs.Apart.{NoTwo}

abbrev pub SameWord : Variable → Variable → Type 0
SameWord one other = one.word ≡ other.word

-- the variables around a place have different names
abbrev pub AreNamed : Scope → Type 0
AreNamed s = NoTwo SameWord s.variables

-- where the variable with number i has this name, the name stands for it
pub record Resolves (s : Scope) (name : Name) (i : ℕ) (v : Variable) : Type 0 where
  pub neighbour : v.bound ≡ Neighbour → who s name ≡ Ok (whos.Var i)
  pub route : v.bound ≡ Route → route s name ≡ Ok i

-- Where a variable was bound, its name stands for it, by how many are bound outside it; and each of those keeps its
-- number.
pub record IsNext (s : Scope) (name called : Name) : Type 0 where
  pub neighbour : who (bind s Neighbour called) name ≡ Ok (whos.Var (length s.variables))
  pub route : route (bind s Route called) name ≡ Ok (length s.variables)
  pub others : (bound : Bound) (i : ℕ) (v : Variable) → slice_get s.variables i ≡ Some v
      → slice_get (bind s bound called).variables i ≡ Some v
