use Rattle.std.proofs.Common.{◌≡◌, ◌++◌, length}
use Rattle.nr_spec_bgp.specs.Paths.{hops, hops_from}
use Rattle.nr_attrs.proofs.path.PathItemsIterator.next.Given as goal

abbrev pub invariant-loop-asn : goal.invariant-loop-asn
invariant-loop-asn l = hops_from l.self-inside.kind l.self-inside.starts l.self-inside.numbers ++ hops l.self-inside.segments ≡ l.fn.self

abbrev pub decreases-loop-asn : goal.decreases-loop-asn
decreases-loop-asn l = length l.self-inside.segments
