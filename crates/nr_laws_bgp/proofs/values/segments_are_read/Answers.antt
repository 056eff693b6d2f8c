use Rattle.nr_laws_bgp.proofs.ValueReading.{segments_read}
use Rattle.nr_laws_bgp.proofs.values.segments_are_read.Goals as goal

pub returns : goal.returns
returns c = segments_read
