use Rattle.nr_laws_bgp.proofs.PlaceWalk.{message_within}
use Rattle.nr_laws_bgp.proofs.places.message_faults_are_within.Goals as goal

pub returns : goal.returns
returns c = message_within
