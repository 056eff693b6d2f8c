use Rattle.nr_verify_routes.proofs.routes.Routes.put.Goals as goal
use Rattle.nr_verify_routes.proofs.Kept.{put_last}
use Rattle.nr_verify_routes.specs.Held.{Held, held}
use Rattle.std.proofs.Common.{[], ap, ◌++◌, ◌∙◌, ◌∷◌}

pub returns : goal.returns
returns c = λ d n.
    let row : Held = record { direction = c.args.direction; neighbour = c.args.neighbour; block = c.args.attrs } in
    ap (λ rows. held rows d n) (c.in_ok-push.ensures.items ∙ ap (λ rows. rows ++ row ∷ []) c.self.view_is) ∙ put_last c.args.direction c.args.neighbour c.args.attrs c.args.self.now c.forget.new.self c.forget.ensures d n
