use Rattle.nr_laws_bgp.proofs.ValueReading.{communities_are}
use Rattle.nr_laws_bgp.proofs.values.communities_are_of_their_bytes.Goals as goal

pub returns : goal.returns
returns c = communities_are
