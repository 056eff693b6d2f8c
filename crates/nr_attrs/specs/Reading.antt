-- What a view keeps of the block that it was read from.
use Rattle.std.specs.Prelude.{◌≡◌, ℕ, Bool, List, [], Result, Ok}
use Rattle.std.specs.Result.{result_unwrap_or}
use Rattle.nr_spec_bgp.specs.Attributes.{Attribute, attributes_in}
use Rattle.nr_attrs.specs.First.{FirstValues, StandsFor, IsInRange}

-- the values are the first ones of the attributes that reading gave
pub record AreFirstOf (as4 : Bool) (v : FirstValues) (read : Result (List Attribute) ℕ) : Type 0 where
  pub list : List Attribute
  pub reads : read ≡ Ok list
  pub stands : StandsFor v list
  pub ranges : IsInRange as4 v

-- the attributes of a block that is in the grammar
abbrev pub list_in : Bool → List ℕ → List Attribute
list_in as4 block = result_unwrap_or (attributes_in as4 block) []
