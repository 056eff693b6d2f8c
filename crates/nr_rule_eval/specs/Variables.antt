-- What the variables that the code keeps stand for: a bound route is kept as its side and neighbour.
use Rattle.std.specs.Prelude.{List, map, unwrap_or}
use Rattle.nr_spec_typing.specs.declared.name.Bound.{Bound}
use Rattle.nr_spec_typing.specs.declared.name.Bound.TheVariants as bounds
use Rattle.nr_spec_typing.specs.Meaning.{Scene, Thing, bare, neighbour, route, route_in}
use Rattle.nr_rule_eval.specs.declared.variables.Slot.{Slot}
use Rattle.nr_rule_eval.specs.declared.variables.Slot.TheVariants.{Neighbour, Route}

abbrev pub thing_of : Scene → Slot → Thing
thing_of scene (Neighbour n) = neighbour n
thing_of scene (Route side n) = route (unwrap_or (route_in scene side n) bare)

abbrev pub things_of : Scene → List Slot → List Thing
things_of scene slots = map (thing_of scene) slots

abbrev pub bound_of : Slot → Bound
bound_of (Neighbour n) = bounds.Neighbour
bound_of (Route side n) = bounds.Route

abbrev pub bounds_of : List Slot → List Bound
bounds_of slots = map bound_of slots
