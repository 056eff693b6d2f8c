-- The rows after entries, in order: for each key that may have a route, the route that the entries leave.
use Rattle.std.specs.Prelude.{[], ◌++◌, ◌∷◌, List, None, Option, Some, map}
use Rattle.std.specs.List.{flat_map}
use Rattle.std.specs.Map.{keys_of}
use Rattle.std.specs.FinMap.{put}
use Rattle.nr_spec_log.specs.Chain.{LogEntry}
use Rattle.nr_spec_bgp.specs.Attributes.{AttributeBlock}
use Rattle.nr_spec_routes.specs.Effects.{Alters, Effect, Empties, Keeps, effect_of}
use Rattle.nr_spec_routes.specs.Keys.{Key, Row, key_cmp}
use Rattle.nr_spec_routes.specs.Routes.{route_after}

-- what is announced
abbrev pub announced : Effect → List Key
announced Keeps = []
announced (Empties neighbour) = []
announced (Alters direction neighbour changes) =
    map (λ p. record { prefix = p; direction = direction; neighbour = neighbour }) changes.announced

-- no other key can have a route
abbrev pub candidates : List Row → List LogEntry → List Key
candidates base entries = keys_of base ++ flat_map (λ e. announced (effect_of e)) entries

-- with the route of a key in its place, where there is one
abbrev pub with_route : Key → Option AttributeBlock → List Row → List Row
with_route key None rows = rows
with_route key (Some route) rows = put key_cmp key route rows

-- the rows of these keys, in order and each once
abbrev pub in_order : (Key → Option AttributeBlock) → List Key → List Row
in_order route [] = []
in_order route (key ∷ keys) = with_route key (route key) (in_order route keys)

unfoldable pub rows_after : List Row → List LogEntry → List Row
rows_after base entries = in_order (route_after base entries) (candidates base entries)
