use Rattle.std.proofs.Common.{◌||◌, List, flat_map, ap, ◌∙◌}
use Rattle.nr_spec_bgp.specs.Prefixes.{Cidr}
use Rattle.nr_spec_routes.specs.Keys.{is_named, standing}
use Rattle.nr_spec_promises.specs.Counted.{named_in}
use Rattle.nr_judging.specs.Views.{files_in}
use Rattle.nr_judging.proofs.Named.{all_gathered}
use Rattle.nr_judging.proofs.prefixes.in_sight.Goals as goal

pub returns : goal.returns
returns c =
    c.in_ok-list.ensures.same ∙ all_gathered (files_in c.args.files.now) c.args.state.now c.args.touched.now c.add_files.new.self c.list.ensures.order (λ (p : Cidr).
    c.in_ok-add_files.ensures p
    ∙ ap (λ t. is_named (flat_map named_in (files_in c.args.files.now)) p || t)
    (c.in_ok-add_standing.ensures p
    ∙ ap (λ (l : List Cidr). is_named l p || is_named c.add_all.new.self p) c.prefixes.ensures
    ∙ ap (λ t. is_named (standing c.args.state.now) p || t)
    (c.in_ok-add_all.ensures p ∙ ap (λ (l : List Cidr). is_named c.args.touched.now p || is_named l p) c.new-gathered.ensures)))
