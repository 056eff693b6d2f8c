use Rattle.nr_laws_bgp.proofs.HeaderPlaces.{header_places}
use Rattle.nr_laws_bgp.proofs.places.header_faults_are_at_their_fields.Goals as goal

pub returns : goal.returns
returns c = header_places
