-- Scenes of the same bytes.
use Rattle.std.specs.Prelude.{◌≡◌, ℕ, Option, Some, None}
use Rattle.nr_spec_bgp.specs.Attributes.{AttributeBlock}
use Rattle.nr_spec_typing.specs.Meaning.{Scene}

-- there is a route in neither, or one of the same bytes in both, with AS numbers of the same size
abbrev pub SameBytes : Option AttributeBlock → Option AttributeBlock → Type 0
SameBytes None None = Unit {0}
SameBytes (Some r) (Some s) = (r.block ≡ s.block) × (r.as4 ≡ s.as4)
SameBytes _ _ = ⊥

pub record SameScene (one other : Scene) : Type 0 where
  pub prefix : one.prefix ≡ other.prefix
  pub received : (n : ℕ) → SameBytes (one.received n) (other.received n)
  pub sent : (n : ℕ) → SameBytes (one.sent n) (other.sent n)
