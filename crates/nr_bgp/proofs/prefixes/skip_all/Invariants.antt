use Rattle.std.proofs.Common.{◌≡◌, length}
use Rattle.nr_spec_bgp.specs.Messages.{cidrs_at}
use Rattle.nr_spec_wire.specs.Reading.{fault}
use Rattle.nr_bgp.proofs.prefixes.skip_all.Given as goal

abbrev pub invariant-loop-cursor : goal.invariant-loop-cursor
invariant-loop-cursor l = fault (cidrs_at l.cursor) ≡ fault (cidrs_at l.initial.cursor)

abbrev pub decreases-loop-cursor : goal.decreases-loop-cursor
decreases-loop-cursor l = length l.cursor.rest
