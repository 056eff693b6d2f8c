use Rattle.std.proofs.Common.{◌≡◌, ◌||◌, take}
use Rattle.nr_spec_bgp.specs.Prefixes.{Cidr}
use Rattle.nr_spec_routes.specs.Keys.{is_named}
use Rattle.nr_judging.proofs.gathered.Gathered.add_all.Given as goal

abbrev pub invariant-loop-prefix : goal.invariant-loop-prefix
invariant-loop-prefix l = (p : Cidr) → is_named l.self p ≡ (is_named (take l.prefix-index l.prefixes) p || is_named l.initial.self p)
