use Rattle.std.proofs.Common.{◌≡◌, None}
use Rattle.std.specs.Prelude.{if◌then◌else◌}
use Rattle.nr_spec_routes.specs.Keys as keys
use Rattle.nr_spec_routes.specs.Keys.{route_in}
use Rattle.nr_tables.specs.Held.{covered}
use Rattle.nr_tables.proofs.change.withdraw.Given as goal

-- with the prefixes that are left withdrawn too, the routes are those with all of them withdrawn
abbrev pub invariant-loop-prefix : goal.invariant-loop-prefix
invariant-loop-prefix l = (q : keys.Key) → (if covered l.direction l.neighbour l.prefix-iterator q then None else route_in l.table.rows q) ≡ (if covered l.direction l.neighbour l.fn.prefixes q then None else route_in l.fn.table.rows q)
