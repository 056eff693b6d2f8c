use Rattle.std.proofs.Common.{◌≡◌, ◌||◌}
use Rattle.nr_spec_bgp.specs.Prefixes.{Cidr}
use Rattle.nr_spec_routes.specs.Keys.{is_named}
use Rattle.nr_judging.proofs.gathered.Gathered.add_standing.Given as goal

-- with those that are left, they are all of them
abbrev pub invariant-loop-prefix : goal.invariant-loop-prefix
invariant-loop-prefix l = (p : Cidr) → (is_named l.prefix-iterator p || is_named l.self p) ≡ (is_named l.fn.prefixes p || is_named l.fn.self p)
