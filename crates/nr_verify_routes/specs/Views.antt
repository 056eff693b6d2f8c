-- What this crate's types stand for in the definitions.
use Rattle.nr_spec_routes.specs.Effects as effects
use Rattle.nr_verify_routes.specs.declared.effect.Effect.{Effect}
use Rattle.nr_verify_routes.specs.declared.effect.Effect.TheVariants.{Keeps, Empties, Alters}

abbrev pub effect_view : Effect → effects.Effect
effect_view Keeps = effects.Keeps
effect_view (Empties neighbour) = effects.Empties neighbour
effect_view (Alters direction neighbour update) = effects.Alters direction neighbour update
