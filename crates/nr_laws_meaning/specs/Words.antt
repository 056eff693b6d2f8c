-- What the constructs of the language are said to mean: a place in a formula, what stands there, and when a
-- formula means a statement. Nothing here has an answer for what is missing.
use Rattle.std.specs.Prelude.{◌≡◌, ℕ, Bool, true, List, [], ◌∷◌, ◌++◌, length, slice_get, Some}
use Rattle.std.specs.Bool.{Decides}
use Rattle.nr_spec_bgp.specs.Paths.{path_len, first_as, last_as}
use Rattle.nr_spec_bgp.specs.Attributes.{AttributeBlock, origin_of, next_hop_of, med_of, pref_of, path_of}
use Rattle.nr_spec_typing.specs.declared.text.Neighbour.{Neighbour}
use Rattle.nr_spec_typing.specs.declared.tree.Who.{Who}
use Rattle.nr_spec_typing.specs.declared.tree.Who.TheVariants.{Var, Named}
use Rattle.nr_spec_typing.specs.declared.tree.Value.{Value}
use Rattle.nr_spec_typing.specs.declared.tree.Value.TheVariants as values
use Rattle.nr_spec_typing.specs.declared.tree.Typing.{Typing}
use Rattle.nr_spec_typing.specs.Meaning.{Scene, Thing, neighbour, route, holds_where}

-- a place in a formula: the neighbours of the text, the scene, and what the variables around the place stand
-- for, the outermost first
pub record Place : Type 0 where
  pub neighbours : List Neighbour
  pub scene : Scene
  pub things : List Thing

abbrev pub truth : Place → Typing → Bool
truth at f = holds_where at.neighbours at.scene f at.things

abbrev pub Holds : Place → Typing → Type 0
Holds at f = truth at f ≡ true

-- the formula holds exactly where this is so
abbrev pub Means : Place → Typing → Type 0 → Type 0
Means at f so = Decides (truth at f) so

-- the number of a variable that is bound here
abbrev pub next : Place → ℕ
next at = length at.things

-- inside of a binder, whose variable stands for this
abbrev pub inside : Place → Thing → Place
inside at x = record at { things = at.things ++ x ∷ [] }

-- the neighbour of this number is named
abbrev pub Names : Place → Who → ℕ → Type 0
Names at (Var v) n = slice_get at.things v ≡ Some (neighbour n)
Names at (Named m) n = m ≡ n

-- the variable stands for the route
abbrev pub StandsFor : Place → ℕ → AttributeBlock → Type 0
StandsFor at v r = slice_get at.things v ≡ Some (route r)

-- a question on the route of a variable has this answer
abbrev pub Answer : Place → ℕ → (AttributeBlock → ℕ) → ℕ → Type 0
Answer at v question k = (r : AttributeBlock) × StandsFor at v r × (question r ≡ k)

-- the term is the number
abbrev pub Counts : Place → Value → ℕ → Type 0
Counts at (values.Number n) k = n ≡ k
Counts at values.Bits k = at.scene.prefix.len ≡ k
Counts at (values.Length v) k = Answer at v (λ r. path_len (path_of r)) k
Counts at (values.Med v) k = Answer at v med_of k
Counts at (values.Pref v) k = Answer at v pref_of k
Counts at (values.Origin v) k = Answer at v origin_of k
Counts at (values.First v) k = Answer at v (λ r. first_as (path_of r)) k
Counts at (values.Last v) k = Answer at v (λ r. last_as (path_of r)) k
Counts at (values.Hop v) k = Answer at v next_hop_of k
Counts at (values.Asn of) k =
    (n : ℕ) × Names at of n × ((x : Neighbour) × (slice_get at.neighbours n ≡ Some x) × (x.asn ≡ k))
