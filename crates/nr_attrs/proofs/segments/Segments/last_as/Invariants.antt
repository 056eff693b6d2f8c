use Rattle.std.proofs.Common.{◌≡◌}
use Rattle.nr_attrs.proofs.SegmentWalk.{last_from}
use Rattle.nr_attrs.proofs.segments.Segments.last_as.Given as goal

abbrev pub invariant-loop-segment : goal.invariant-loop-segment
invariant-loop-segment l = last_from l.last l.self ≡ last_from 0 l.initial.self
