use Rattle.std.proofs.Common.{◌+◌, ◌||◌, List, take, ap, ◌∙◌}
use Rattle.nr_spec_bgp.specs.Prefixes.{Cidr}
use Rattle.nr_spec_routes.specs.Keys.{is_named}
use Rattle.nr_spec_typing.specs.declared.text.Promise.{Promise}
use Rattle.nr_judging.proofs.Gathering.{more_named}
use Rattle.nr_judging.proofs.Stages.{took_more}
use Rattle.nr_judging.proofs.gathered.Gathered.add_named.Goals as goal

pub loop-promise-preserved : goal.loop-promise-preserved
loop-promise-preserved c = λ (p : Cidr).
    let i = c.loop-promise.promise-index in
    let ps = c.args.promises.now in
    let x = c.promise-item.result in
    more_named (λ (x : Promise). x.at) (take i ps) (take (i + 1) ps) x p (is_named c.loop-promise.self p) (is_named c.args.self.now p) (is_named c.add_all.new.self p)
    (took_more ps i x c.loop-promise-test.true c.promise-item.is)
    (c.in_ok-add_all.ensures p ∙ ap (λ (l : List Cidr). is_named l p || is_named c.loop-promise.self p) c.as_slice.ensures)
    (c.loop-promise.invariant p)
