-- What this crate's types stand for in the definitions.
use Rattle.nr_spec_bgp.specs.Paths.{Segment as PathSegment, Hop}
use Rattle.nr_attrs.specs.declared.segments.Segment.{Segment}
use Rattle.nr_attrs.specs.declared.path.PathItem.{PathItem}

abbrev pub segment_of : Segment → PathSegment
segment_of s = record { kind = s.kind; numbers = s.numbers }

abbrev pub hop_of : PathItem → Hop
hop_of i = record { segment = i.segment; starts = i.starts; asn = i.asn }
