-- What this crate's types stand for in the definitions.
use Rattle.std.specs.Prelude.{List}
use Rattle.nr_spec_bgp.specs.Prefixes.{Cidr}
use Rattle.nr_spec_routes.specs.declared.direction.Direction.TheVariants.{Received, Sent}
use Rattle.nr_spec_typing.specs.Meaning as meaning
use Rattle.nr_spec_typing.specs.Meaning.{Scene}
use Rattle.nr_verify_routes.specs.Held.{Held, held}
use Rattle.nr_verify_eval.specs.declared.things.Thing.{Thing}
use Rattle.nr_verify_eval.specs.declared.things.Thing.TheVariants.{Neighbour, Route}

abbrev pub thing_of : Thing → meaning.Thing
thing_of (Neighbour n) = meaning.neighbour n
thing_of (Route r) = meaning.route r.now

-- a prefix with these routes
abbrev pub scene_of : Cidr → List Held → Scene
scene_of p rows = record { prefix = p; received = held rows Received; sent = held rows Sent }
