-- The prefixes that an entry touches.
use Rattle.std.specs.Prelude.{[], ℕ, ◌++◌, ◌==◌, List, filter}
use Rattle.nr_spec_log.specs.Chain.{LogEntry}
use Rattle.nr_spec_bgp.specs.Prefixes.{Cidr}
use Rattle.nr_spec_routes.specs.Effects.{Alters, Effect, Empties, Keeps, effect_of}
use Rattle.nr_spec_routes.specs.Keys.{Row, each_once, prefixes_in}
use Rattle.nr_spec_routes.specs.Rows.{rows_after}

-- the rows with a neighbour, received and sent
abbrev pub rows_with : ℕ → List Row → List Row
rows_with neighbour rows = filter (λ r. neighbour == r.0.neighbour) rows

-- What an entry touches, by the rows before it: the prefixes that its UPDATE names, or, where it empties a neighbour,
-- those that had a row with that neighbour.
abbrev pub names : List Row → Effect → List Cidr
names rows Keeps = []
names rows (Empties neighbour) = prefixes_in (rows_with neighbour rows)
names rows (Alters direction neighbour changes) = changes.withdrawn ++ changes.announced

-- in order and each once
unfoldable pub touched_by : List Row → Effect → List Cidr
touched_by rows effect = each_once (names rows effect)

-- what an entry touches after other entries
abbrev pub touched_after : List Row → List LogEntry → LogEntry → List Cidr
touched_after base past e = touched_by (rows_after base past) (effect_of e)
