use Rattle.nr_laws_bgp.proofs.ValueReading.{segments_found}
use Rattle.nr_laws_bgp.proofs.values.read_path_is_segments.Goals as goal

pub returns : goal.returns
returns c = segments_found
