use Rattle.std.proofs.Common.{◌≡◌}
use Rattle.nr_spec_bgp.specs.Paths.{crosses}
use Rattle.nr_attrs.proofs.segments.Segments.crosses.Given as goal

abbrev pub invariant-loop-segment : goal.invariant-loop-segment
invariant-loop-segment l = crosses l.asn l.self ≡ crosses l.asn l.initial.self
