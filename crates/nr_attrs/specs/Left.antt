-- What is left of a path, from a spot in its bytes.
use Rattle.std.specs.Prelude.{Bool, List, []}
use Rattle.std.specs.Result.{result_unwrap_or}
use Rattle.nr_spec_wire.specs.Reading.{Spot}
use Rattle.nr_spec_bgp.specs.Paths.{Segment, segments_at}

abbrev pub segments_from : Bool → Spot → List Segment
segments_from as4 s = result_unwrap_or (segments_at as4 s) []
