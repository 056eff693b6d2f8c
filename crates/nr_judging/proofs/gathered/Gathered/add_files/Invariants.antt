use Rattle.std.proofs.Common.{◌≡◌, ◌||◌, take, flat_map}
use Rattle.nr_spec_bgp.specs.Prefixes.{Cidr}
use Rattle.nr_spec_routes.specs.Keys.{is_named}
use Rattle.nr_spec_promises.specs.Counted.{named_in}
use Rattle.nr_judging.specs.Views.{files_in}
use Rattle.nr_judging.proofs.gathered.Gathered.add_files.Given as goal

abbrev pub invariant-loop-file : goal.invariant-loop-file
invariant-loop-file l = (p : Cidr) → is_named l.self p ≡ (is_named (flat_map named_in (files_in (take l.file-index l.files))) p || is_named l.initial.self p)
