use Rattle.std.proofs.Common.{◌≡◌, length}
use Rattle.std.specs.Prelude.{is_ok}
use Rattle.nr_spec_bgp.specs.Paths.{segments_at}
use Rattle.nr_attrs.proofs.values.is_path.Given as goal

abbrev pub invariant-loop-cursor : goal.invariant-loop-cursor
invariant-loop-cursor l = is_ok (segments_at l.as4 l.cursor) ≡ is_ok (segments_at l.as4 l.initial.cursor)

abbrev pub decreases-loop-cursor : goal.decreases-loop-cursor
decreases-loop-cursor l = length l.cursor.rest
