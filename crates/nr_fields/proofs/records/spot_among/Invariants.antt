use Rattle.std.proofs.Common.{◌≡◌, ◌≤◌, length}
use Rattle.nr_fields.specs.Records.{spot_among}
use Rattle.nr_fields.proofs.records.spot_among.Given as goal

abbrev pub invariant-loop-left : goal.invariant-loop-left
invariant-loop-left l =
    (l.at ≤ length l.rest) × (l.at ≤ l.fn.at) × (spot_among l.shape l.left l.rest l.at ≡ spot_among l.shape l.count l.bytes l.fn.at)

abbrev pub decreases-loop-left : goal.decreases-loop-left
decreases-loop-left l = l.left
