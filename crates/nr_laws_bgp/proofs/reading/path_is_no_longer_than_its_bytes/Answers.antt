use Rattle.nr_spec_bgp.proofs.Short.{segments_are_short}
use Rattle.nr_laws_bgp.proofs.reading.path_is_no_longer_than_its_bytes.Goals as goal

pub returns : goal.returns
returns c = segments_are_short
