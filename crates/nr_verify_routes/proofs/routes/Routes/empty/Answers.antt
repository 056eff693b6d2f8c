use Rattle.std.proofs.lemmas.Fn.{filter_same}
use Rattle.nr_verify_routes.proofs.routes.Routes.empty.Goals as goal
use Rattle.nr_verify_routes.proofs.Kept.{emptied}
use Rattle.nr_verify_routes.specs.Held.{Held, held}
use Rattle.std.proofs.Common.{None, ap, cond, eqb, not, rules, ◌∙◌}

pub returns : goal.returns
returns c =
    let kept = filter_same _ (λ (r : Held). not (eqb r.neighbour c.args.neighbour)) _ (λ r b f t. search rules) _ _ c.retain.ensures.filtered in
    λ d n. ap (λ rows. held rows d n) kept ∙ (emptied c.args.neighbour c.self.inside.rows.items d n ∙ ap (λ rows. cond (eqb c.args.neighbour n) None (held rows d n)) c.self.view_is)
