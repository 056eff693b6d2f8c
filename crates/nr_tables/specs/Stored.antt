-- What is kept of a route.
use Rattle.std.specs.Prelude.{ℕ, ◌<◌, ◌^◌, ◌≡◌, Bool, List, Ok, length}
use Rattle.nr_spec_bgp.specs.Attributes.{attributes_in}
use Rattle.nr_attrs.specs.Reading.{list_in}

-- the block reads, and a length of two bytes holds its size
pub record IsStored (as4 : Bool) (block : List ℕ) : Type 0 where
  pub reads : attributes_in as4 block ≡ Ok (list_in as4 block)
  pub short : length block < 2 ^ 16
