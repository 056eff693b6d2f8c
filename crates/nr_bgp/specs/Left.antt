-- What is left of a list of prefixes, from a spot in its bytes.
use Rattle.std.specs.Prelude.{List, []}
use Rattle.std.specs.Result.{result_unwrap_or}
use Rattle.nr_spec_wire.specs.Reading.{Spot}
use Rattle.nr_spec_bgp.specs.Prefixes.{Cidr}
use Rattle.nr_spec_bgp.specs.Messages.{cidrs_at}

abbrev pub cidrs_from : Spot → List Cidr
cidrs_from s = result_unwrap_or (cidrs_at s) []
