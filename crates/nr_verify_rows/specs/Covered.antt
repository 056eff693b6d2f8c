-- Which routes an UPDATE is of.
use Rattle.std.specs.Prelude.{ℕ, ◌&&◌, Bool, List}
use Rattle.nr_spec_bgp.specs.Prefixes.{Cidr}
use Rattle.nr_spec_routes.specs.declared.direction.Direction.{Direction}
use Rattle.nr_spec_routes.specs.Keys.{Key, is_named}
use Rattle.nr_spec_routes.specs.Effects.{is_with}

-- whether a route is of one of these prefixes, in a direction with a neighbour
abbrev pub covered : Direction → ℕ → List Cidr → Key → Bool
covered direction neighbour prefixes key = is_with direction neighbour key && is_named prefixes key.prefix
