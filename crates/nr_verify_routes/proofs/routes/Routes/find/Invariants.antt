use Rattle.nr_verify_routes.proofs.routes.Routes.find.Given as goal
use Rattle.nr_verify_routes.specs.Held.{held}
use Rattle.std.proofs.Common.{drop, ◌≡◌}

abbrev pub invariant-loop-row : goal.invariant-loop-row
invariant-loop-row l = held (drop l.row-index l.row-items) l.direction l.neighbour ≡ held l.fn.self l.direction l.neighbour
