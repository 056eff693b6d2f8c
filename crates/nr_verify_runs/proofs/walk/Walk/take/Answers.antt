use Rattle.nr_verify_runs.proofs.walk.Walk.take.Goals as goal
use Rattle.std.proofs.Common.{[], ◌∷◌, ◌++◌, ap, sym, subst, ◌∙◌}
use Rattle.nr_chain.specs.Views.{entry_of}
use Rattle.nr_verify_runs.specs.Views.{charge_of}
use Rattle.nr_verify_runs.specs.Walked.{Kept, Walked}
use Rattle.nr_verify_runs.proofs.Marks.{begun_so, moved, routes_more, steps}

pub returns-clause-walked : goal.returns-clause-walked
returns-clause-walked c base first past h late =
    let charge = charge_of first c.args.charge.now in
    let e = entry_of c.args.entry.now in
    let w = subst (Walked base charge past) (sym c.self.view_is) (c.in_ok-begin.ensures.walked base first past h) in
    let b = ap (λ (k : Kept). k.begun) c.self.view_is ∙ (c.in_ok-begin.ensures.begun ∙ begun_so c.args.self.now.begun charge.period.from e.time late) in
    let routes = routes_more base past e charge.prefix c.self.inside.routes c.step.new.routes w.routes c.in_ok-step.ensures in
    let f = c.file_after-self-inside.ensures base first past w.file in
    moved base charge (past ++ e ∷ []) c.see.new.self c.step.new.routes c.file_after-self-inside.result c.self.inside.begun c.in_ok-see.ensures.rows c.in_ok-see.ensures.file c.in_ok-see.ensures.begun
    (steps base charge past e c.self.inside.routes c.step.new.routes c.file_after-self-inside.result c.self.inside.file c.self.inside.begun c.self.inside.watch c.see.new.self.watch w b routes f
    (λ ms seen. c.in_ok-see.ensures.seen base first (past ++ e ∷ []) ms routes f seen) c.in_ok-see.ensures.idle)
