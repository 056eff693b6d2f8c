use Rattle.nr_laws_bodies.proofs.Body.{base_takes}
use Rattle.nr_laws_bodies.proofs.bodies.read_bodies_are_spelled.Goals as goal

pub returns : goal.returns
returns c = base_takes
