use Rattle.nr_laws_bgp.proofs.PlaceWalk.{record_within}
use Rattle.nr_laws_bgp.proofs.places.record_faults_are_within.Goals as goal

pub returns : goal.returns
returns c = record_within
