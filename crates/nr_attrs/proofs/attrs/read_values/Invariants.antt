use Rattle.std.proofs.Common.{length}
use Rattle.nr_spec_bgp.specs.Attributes.{attributes_at}
use Rattle.nr_attrs.proofs.Reading.{SoFar}
use Rattle.nr_attrs.proofs.attrs.read_values.Given as goal

abbrev pub invariant-loop-cursor : goal.invariant-loop-cursor
invariant-loop-cursor l = SoFar l.as4 l.seen l.cursor (attributes_at l.as4 l.fn.cursor)

abbrev pub decreases-loop-cursor : goal.decreases-loop-cursor
decreases-loop-cursor l = length l.cursor.rest
