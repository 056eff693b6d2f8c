use Rattle.std.proofs.Common.{◌≡◌, ◌||◌, take, flat_map}
use Rattle.nr_spec_bgp.specs.Prefixes.{Cidr}
use Rattle.nr_spec_routes.specs.Keys.{is_named}
use Rattle.nr_spec_typing.specs.declared.text.Promise.{Promise}
use Rattle.nr_judging.proofs.gathered.Gathered.add_named.Given as goal

abbrev pub invariant-loop-promise : goal.invariant-loop-promise
invariant-loop-promise l = (p : Cidr) → is_named l.self p ≡ (is_named (flat_map (λ (x : Promise). x.at) (take l.promise-index l.promises)) p || is_named l.initial.self p)
