-- Neighbours are numbered in the order of their declarations, and the name of each means its number.
use Rattle.std.specs.Prelude.{◌≡◌, ℕ, List, slice_get, Some}
use Rattle.std.specs.List.{flat_map}
use Rattle.nr_rule_syntax.specs.declared.tree.Decl.{Decl}
use Rattle.nr_spec_typing.specs.declared.name.Named.TheVariants as named
use Rattle.nr_spec_typing.specs.declared.name.Declared.{Declared}
use Rattle.nr_spec_typing.specs.declared.text.Neighbour.{Neighbour}
use Rattle.nr_spec_typing.specs.Scopes.{meaning}
use Rattle.nr_laws_typing.specs.Says.{neighbour_in}

-- what the names mean that were declared, behind these declarations
pub record AreNumbered (before : List Decl) (names : List Declared) : Type 0 where
  pub means : (n : ℕ) (x : Neighbour) → slice_get (flat_map neighbour_in before) n ≡ Some x → meaning names x.name
      ≡ Some (named.Neighbour n)
  pub meant : (n : ℕ) (word : List ℕ) → meaning names word ≡ Some (named.Neighbour n) → (x : Neighbour)
      × (slice_get (flat_map neighbour_in before) n ≡ Some x) × (x.name ≡ word)
