use Rattle.nr_laws_bgp.proofs.ValueReading.{path_is}
use Rattle.nr_laws_bgp.proofs.values.path_is_of_its_bytes.Goals as goal

pub returns : goal.returns
returns c = path_is
