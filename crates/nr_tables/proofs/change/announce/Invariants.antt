use Rattle.std.proofs.Common.{◌≡◌, ◌<◌, Some, length}
use Rattle.std.specs.Prelude.{if◌then◌else◌}
use Rattle.nr_spec_routes.specs.Keys as keys
use Rattle.nr_spec_routes.specs.Keys.{route_in}
use Rattle.nr_tables.specs.Held.{covered}
use Rattle.nr_tables.specs.Shared.{block_at}
use Rattle.nr_tables.proofs.change.announce.Given as goal

-- with the prefixes that are left announced too, the routes are those with all of them announced
abbrev pub invariant-loop-prefix : goal.invariant-loop-prefix
invariant-loop-prefix l = record {
  routes : (q : keys.Key) → (if covered l.direction l.neighbour l.prefix-iterator q then Some l.attrs else route_in l.table.rows q) ≡ (if covered l.direction l.neighbour l.fn.prefixes q then Some l.attrs else route_in l.fn.table.rows q);
  within : l.place < length l.table.blocks;
  named : block_at l.table.blocks l.place ≡ l.attrs;
}
