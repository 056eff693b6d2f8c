use Rattle.nr_laws_bgp.proofs.Ranges.{in_range}
use Rattle.nr_laws_bgp.proofs.reading.first_values_are_in_range.Goals as goal

pub returns : goal.returns
returns c = in_range
