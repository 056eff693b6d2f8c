use Rattle.std.proofs.Common.{◌||◌, ap, sym, ◌∙◌}
use Rattle.nr_spec_bgp.specs.Prefixes.{Cidr}
use Rattle.nr_spec_routes.specs.Keys.{is_named}
use Rattle.nr_judging.proofs.Gathering.{one_gathered}
use Rattle.nr_judging.proofs.gathered.Gathered.add_standing.Goals as goal

pub loop-prefix-preserved : goal.loop-prefix-preserved
loop-prefix-preserved c = λ (p : Cidr).
    ap (λ l. is_named c.next.new.self p || is_named l p) c.in_ok-add.ensures
    ∙ one_gathered c.in-Some.prefix p c.next.new.self c.loop-prefix.self
    ∙ ap (λ l. is_named l p || is_named c.loop-prefix.self p) (sym c.in-Some.ensures.steps)
    ∙ c.loop-prefix.invariant p
