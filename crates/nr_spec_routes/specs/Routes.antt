-- The route that stands after entries: what the last entry that decides it says.
use Rattle.std.specs.Prelude.{◌≡◌, List, Option, unwrap_or}
use Rattle.nr_spec_log.specs.Chain.{LogEntry}
use Rattle.nr_spec_bgp.specs.Attributes.{AttributeBlock}
use Rattle.nr_spec_routes.specs.Keys.{Key, Row, route_in}
use Rattle.nr_spec_routes.specs.Effects.{effect_of, says}
use Rattle.nr_spec_routes.specs.LookBack.{last_of}

-- what an entry says of a route: nothing, that there is none, or which one it is
abbrev pub word_of : Key → LogEntry → Option (Option AttributeBlock)
word_of key e = says (effect_of e) key

-- the route after entries, from the rows before them
abbrev pub route_after : List Row → List LogEntry → Key → Option AttributeBlock
route_after base entries key = unwrap_or (last_of (word_of key) entries) (route_in base key)

-- the rows are those after the entries: at each key they have the route that the entries leave
abbrev pub AreRowsAfter : List Row → List LogEntry → List Row → Type 0
AreRowsAfter base entries rows = (key : Key) → route_in rows key ≡ route_after base entries key
