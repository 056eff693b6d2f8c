-- The names that a formula uses, and what each use wants. It says nothing of what they are resolved to.
use Rattle.std.specs.Prelude.{ℕ, Bool, true, false, ◌&&◌, ◌||◌, not, List, [], ◌∷◌, ◌++◌, Option, Some, is_none}
use Rattle.std.specs.List.{list_any, flat_map}
use Rattle.std.specs.Str.{bytes_eq}
use Rattle.nr_rule_syntax.specs.declared.tree.Name.{Name}
use Rattle.nr_rule_syntax.specs.declared.tree.Form.{Form}
use Rattle.nr_rule_syntax.specs.declared.tree.Form.TheOpen.{Form-F}
use Rattle.nr_rule_syntax.specs.declared.tree.Form.TheFolds.{fold-Form}
use Rattle.nr_rule_syntax.specs.declared.tree.Term.{Term}
use Rattle.nr_rule_syntax.specs.declared.tree.Term.TheVariants as terms
use Rattle.nr_spec_typing.specs.declared.name.Bound.{Bound}
use Rattle.nr_spec_typing.specs.declared.name.Bound.TheVariants.{Neighbour, Route}
use Rattle.nr_spec_typing.specs.declared.name.Variable.{Variable}
use Rattle.nr_laws_typing.specs.Demands.{Demand}

-- what a declared name is
pub data Kind : Type 0 where
  ANeighbour : Kind
  AGroup : Kind
  ASet : Kind
  APromise : Kind

-- what a use wants of its name: to be new, or to stand for this
pub data Want : Type 0 where
  New : Want
  Who : Want
  OneRoute : Want
  Group : Want
  Set : Want

-- a use of a name, and the variables bound around it
pub record Use : Type 0 where
  pub name : Name
  pub want : Want
  pub around : List Variable

abbrev pub is_neighbour : Option Kind → Bool
is_neighbour (Some ANeighbour) = true
is_neighbour _ = false

abbrev pub is_group : Option Kind → Bool
is_group (Some AGroup) = true
is_group _ = false

abbrev pub is_set : Option Kind → Bool
is_set (Some ASet) = true
is_set _ = false

abbrev pub is_kind : Bound → Bound → Bool
is_kind Neighbour found = elim found [ Neighbour ↦ true | Route ↦ false ]
is_kind Route found = elim found [ Neighbour ↦ false | Route ↦ true ]

-- some variable around has this name, and stands for this
abbrev pub is_bound : Bound → Name → List Variable → Bool
is_bound bound name around = list_any (λ v. bytes_eq v.word name.word && is_kind bound v.bound) around

-- whether a use of this name is as it is wanted, where the names declared before are of these kinds
abbrev pub is_wanted : (List ℕ → Option Kind) → Name → List Variable → Want → Bool
is_wanted kinds name around New = is_none (kinds name.word) && not (list_any (λ v. bytes_eq v.word name.word) around)
is_wanted kinds name around Who = is_bound Neighbour name around || is_neighbour (kinds name.word)
is_wanted kinds name around OneRoute = is_bound Route name around
is_wanted kinds name around Group = is_group (kinds name.word)
is_wanted kinds name around Set = is_set (kinds name.word)

-- that the use is as it is wanted, demanded at its name
abbrev pub demand_of : (List ℕ → Option Kind) → Use → Demand
demand_of kinds u = record { met = is_wanted kinds u.name u.around u.want; at = u.name.span }

-- ---- the uses in a formula, in the order of its text

-- the uses where these variables are bound around
abbrev pub Using : Type 0
Using = List Variable → List Use

abbrev pub asks : Want → Name → Using
asks want name around = record { name = name; want = want; around = around } ∷ []

abbrev pub with_variable : Bound → Name → List Variable → List Variable
with_variable bound name around = around ++ record { word = name.word; bound = bound } ∷ []

abbrev pub term_uses : Term → Using
term_uses (terms.Number n) = λ around. []
term_uses terms.Bits = λ around. []
term_uses (terms.Length of) = asks OneRoute of
term_uses (terms.Med of) = asks OneRoute of
term_uses (terms.Pref of) = asks OneRoute of
term_uses (terms.Origin of) = asks OneRoute of
term_uses (terms.First of) = asks OneRoute of
term_uses (terms.Last of) = asks OneRoute of
term_uses (terms.Hop of) = asks OneRoute of
term_uses (terms.Asn of) = asks Who of

-- a variable of `all` or `some` is bound in its formula, one of `if` in the part after `then` alone
abbrev pub uses_step : Form-F Using → Using
uses_step Form-F.True = λ around. []
uses_step Form-F.False = λ around. []
uses_step (Form-F.Not held) = held
uses_step (Form-F.And members) = λ around. flat_map (λ member. member around) members
uses_step (Form-F.Or members) = λ around. flat_map (λ member. member around) members
uses_step (Form-F.Implies left right) = λ around. left around ++ right around
uses_step (Form-F.All var among form) =
    λ around. asks New var around ++ (asks Group among around ++ form (with_variable Neighbour var around))
uses_step (Form-F.Some var among form) =
    λ around. asks New var around ++ (asks Group among around ++ form (with_variable Neighbour var around))
uses_step (Form-F.If var side of yes_ no_) =
    λ around. asks New var around ++ (asks Who of around ++ (yes_ (with_variable Route var around) ++ no_ around))
uses_step (Form-F.Stands side of) = asks Who of
uses_step (Form-F.Has var community) = asks OneRoute var
uses_step (Form-F.Crosses var term) = λ around. asks OneRoute var around ++ term_uses term around
uses_step (Form-F.Is left right) = λ around. asks Who left around ++ asks Who right around
uses_step (Form-F.PrefixIn set) = asks Set set
uses_step (Form-F.Compare left op right) = λ around. term_uses left around ++ term_uses right around

abbrev pub uses : Form → Using
uses = fold-Form Using uses_step
