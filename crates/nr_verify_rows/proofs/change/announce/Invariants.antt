use Rattle.std.proofs.Common.{◌≡◌, Some}
use Rattle.std.specs.Prelude.{if◌then◌else◌}
use Rattle.nr_spec_routes.specs.Keys as keys
use Rattle.nr_spec_routes.specs.Keys.{route_in}
use Rattle.nr_verify_rows.specs.Covered.{covered}
use Rattle.nr_verify_rows.proofs.change.announce.Given as goal

-- with the prefixes that are left announced too, the routes are those with all of them announced
abbrev pub invariant-loop-prefix : goal.invariant-loop-prefix
invariant-loop-prefix l = (q : keys.Key) → (if covered l.direction l.neighbour l.prefix-iterator q then Some l.update.attributes else route_in l.table q) ≡ (if covered l.direction l.neighbour l.update.announced q then Some l.update.attributes else route_in l.fn.table q)
