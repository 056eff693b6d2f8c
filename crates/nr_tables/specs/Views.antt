-- What this crate's types stand for in the definitions.
use Rattle.std.specs.Prelude.{◌<◌, ◌^◌, length}
use Rattle.nr_spec_routes.specs.Effects as effects
use Rattle.nr_spec_routes.specs.Keys as keys
use Rattle.nr_tables.specs.declared.effect.Effect.{Effect}
use Rattle.nr_tables.specs.declared.effect.Effect.TheVariants.{Keeps, Empties, Alters}
use Rattle.nr_tables.specs.declared.row.Row.{Row}

abbrev pub effect_view : Effect → effects.Effect
effect_view Keeps = effects.Keeps
effect_view (Empties neighbour) = effects.Empties neighbour
effect_view (Alters direction neighbour update) = effects.Alters direction neighbour update

-- the block of what is announced has a length of two bytes
abbrev pub IsShort : effects.Effect → Type 0
IsShort effects.Keeps = Unit {0}
IsShort (effects.Empties neighbour) = Unit {0}
IsShort (effects.Alters direction neighbour changes) = length changes.attributes.block < 2 ^ 16

-- a row without where it lies in memory
abbrev pub row_of : Row → keys.Row
row_of r = (record { prefix = r.prefix; direction = r.direction; neighbour = r.neighbour }, r.attrs)
