use Rattle.std.proofs.Common.{ap, ◌∙◌}
use Rattle.nr_spec_bgp.specs.Prefixes.{Cidr}
use Rattle.nr_spec_routes.specs.Keys.{is_named}
use Rattle.nr_judging.proofs.Gathering.{one_added}
use Rattle.nr_judging.proofs.gathered.Gathered.add_all.Goals as goal

pub loop-prefix-preserved : goal.loop-prefix-preserved
loop-prefix-preserved c = λ (p : Cidr).
    ap (λ l. is_named l p) c.in_ok-add.ensures
    ∙ one_added c.args.prefixes.now c.args.self.now c.loop-prefix.self c.loop-prefix.prefix-index c.prefix-item.result p c.loop-prefix-test.true c.prefix-item.is (c.loop-prefix.invariant p)
