-- The routes of one prefix, as a list.
use Rattle.std.specs.Prelude.{◌≡◌, ℕ, ◌&&◌, ◌==◌, Bool, List, [], ◌∷◌, Option, None, Some, if◌then◌else◌}
use Rattle.std.specs.Ordering.{is_eq}
use Rattle.nr_spec_log.specs.Chain.{LogEntry}
use Rattle.nr_spec_bgp.specs.Attributes.{AttributeBlock}
use Rattle.nr_spec_bgp.specs.Prefixes.{Cidr}
use Rattle.nr_spec_routes.specs.declared.direction.Direction.{Direction}
use Rattle.nr_spec_routes.specs.Keys.{Key, Row, direction_cmp}
use Rattle.nr_spec_routes.specs.Routes.{route_after}

-- a route with a neighbour, in a direction
pub record Held : Type 0 where
  pub direction : Direction
  pub neighbour : ℕ
  pub block : AttributeBlock

abbrev pub is_side : Direction → ℕ → Direction → ℕ → Bool
is_side d n e m = is_eq (direction_cmp d e) && n == m

abbrev pub is_of : Direction → ℕ → Held → Bool
is_of d n r = is_side d n r.direction r.neighbour

-- the route in a direction with a neighbour, where there is one
abbrev pub held : List Held → Direction → ℕ → Option AttributeBlock
held [] d n = None
held (r ∷ rows) d n = if is_of d n r then Some r.block else held rows d n

abbrev pub key_at : Cidr → Direction → ℕ → Key
key_at p d n = record { prefix = p; direction = d; neighbour = n }

-- These are the routes of a prefix after entries.
abbrev pub AreOf : List Row → List LogEntry → Cidr → List Held → Type 0
AreOf base past p rows = (d : Direction) (n : ℕ) → held rows d n ≡ route_after base past (key_at p d n)
