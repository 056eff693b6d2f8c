use Rattle.nr_verify_runs.proofs.walk.Walk.begin.Goals as goal
use Rattle.std.proofs.Common.{◌≡◌, [], false, sym, subst, arith}
use Rattle.nr_verify_runs.specs.Views.{charge_of}
use Rattle.nr_verify_runs.specs.Walked.{Walked}
use Rattle.nr_verify_runs.proofs.Marks.{begins}

pub returns-in_ok-sight-clause-walked : goal.returns-in_ok-sight-clause-walked
returns-in_ok-sight-clause-walked c base first past h =
    let k = subst (Walked base (charge_of first c.args.charge.now) past) (sym c.self.view_is) h in
    let b : c.self.inside.begun ≡ false = grind arith in
    begins base (charge_of first c.args.charge.now) past c.self.inside.routes c.self.inside.file c.self.inside.begun c.self.inside.watch c.sight.new.watch b k
    (c.in_ok-sight.ensures.seen base first past [] k.routes k.file (k.before b).1)
