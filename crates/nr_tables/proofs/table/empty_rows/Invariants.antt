use Rattle.nr_spec_routes.specs.Keys as keys
use Rattle.nr_tables.proofs.table.empty_rows.Given as goal
use Rattle.std.proofs.Common.{◌==◌, ◌||◌, ◌≡◌, None, cond, length}
use Rattle.nr_spec_bgp.specs.Prefixes.{Cidr}
use Rattle.nr_spec_routes.specs.Keys.{is_named, prefixes_in, route_in}
use Rattle.nr_spec_routes.specs.Touched.{rows_with}
use Rattle.nr_tables.specs.Held.{AreHeld}

abbrev pub invariant-loop-key : goal.invariant-loop-key
invariant-loop-key l = record {
  held : AreHeld l.rows.rows l.places;
  rows : (q : keys.Key) → cond (l.neighbour == q.neighbour) None (route_in l.rows.rows q) ≡ cond (l.neighbour == q.neighbour) None (route_in l.fn.rows.rows q);
  named : (p : Cidr) → (is_named (prefixes_in (rows_with l.neighbour l.rows.rows)) p || is_named l.gathered p) ≡ (is_named (prefixes_in (rows_with l.neighbour l.fn.rows.rows)) p || is_named l.fn.gathered p);
}

abbrev pub decreases-loop-key : goal.decreases-loop-key
decreases-loop-key l = length l.places
