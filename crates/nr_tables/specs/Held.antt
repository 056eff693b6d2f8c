-- What is kept beside the rows.
use Rattle.std.specs.Prelude.{ℕ, ◌&&◌, ◌≡◌, Bool, List, is_some, true}
use Rattle.std.specs.declared.cmp.Ordering.{Ordering}
use Rattle.std.specs.BTreeMap.{is_at}
use Rattle.std.specs.List.{list_any}
use Rattle.std.specs.Ordering.{nat_cmp, ordering_then}
use Rattle.nr_spec_bgp.specs.Prefixes.{Cidr}
use Rattle.nr_spec_routes.specs.declared.direction.Direction.{Direction}
use Rattle.nr_spec_routes.specs.Keys.{Key, Row, cidr_cmp, direction_cmp, is_named, key_cmp, route_in}
use Rattle.nr_spec_routes.specs.Effects.{is_with}

-- the order by neighbour: those of a neighbour stand together
abbrev pub place_cmp : Key → Key → Ordering
place_cmp a b =
    ordering_then (nat_cmp a.neighbour b.neighbour)
    (ordering_then (cidr_cmp a.prefix b.prefix) (direction_cmp a.direction b.direction))

-- whether a key is among others
abbrev pub is_in : List Key → Key → Bool
is_in places q = list_any (is_at (key_cmp q)) places

-- every row has its place; there may be more places
abbrev pub AreHeld : List Row → List Key → Type 0
AreHeld rows places = (q : Key) → is_some (route_in rows q) ≡ true → is_in places q ≡ true

-- whether a route is of one of these prefixes, in a direction with a neighbour
abbrev pub covered : Direction → ℕ → List Cidr → Key → Bool
covered direction neighbour prefixes key = is_with direction neighbour key && is_named prefixes key.prefix
