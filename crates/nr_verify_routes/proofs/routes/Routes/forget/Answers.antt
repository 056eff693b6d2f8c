use Rattle.std.proofs.lemmas.Fn.{filter_same}
use Rattle.nr_verify_routes.proofs.routes.Routes.forget.Goals as goal
use Rattle.nr_verify_routes.proofs.Kept.{forgotten}
use Rattle.nr_verify_routes.specs.Held.{Held, held, is_of, is_side}
use Rattle.std.proofs.Common.{None, ap, cond, not, rules, ◌∙◌}

pub returns : goal.returns
returns c =
    let kept = filter_same _ (λ (r : Held). not (is_of c.args.direction c.args.neighbour r)) _ (λ r b f t. search rules) _ _ c.retain.ensures.filtered in
    λ d n. ap (λ rows. held rows d n) kept ∙ (forgotten c.args.direction c.args.neighbour c.self.inside.rows.items d n ∙ ap (λ rows. cond (is_side c.args.direction c.args.neighbour d n) None (held rows d n)) c.self.view_is)
