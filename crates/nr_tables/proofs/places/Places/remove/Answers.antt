use Rattle.std.proofs.Common.{◌≡◌, false, cond, subst, length, ◌∙◌}
use Rattle.std.specs.List.{list_any}
use Rattle.std.specs.BTreeMap.{is_at}
use Rattle.nr_spec_routes.specs.Keys as keys
use Rattle.nr_tables.proofs.places.Places.remove.Goals as goal
use Rattle.nr_tables.proofs.InPlaces.{in_is, one_fewer, removed}
use Rattle.nr_tables.proofs.Order.{same_place_order}

pub returns-clause-rest : goal.returns-clause-rest
returns-clause-rest c = removed c.args.self.now c.remove.new.self.keys c.args.key
    (subst (λ R. (q : keys.Key) → list_any (is_at (R q)) c.remove.new.self.keys ≡ cond (is_at (R c.args.key) q) false (list_any (is_at (R q)) c.args.self.now)) same_place_order
    (rw (c.place_of.ensures, c.self.view_is) at c.remove.ensures.updates.0))

pub returns-clause-fewer : goal.returns-clause-fewer
returns-clause-fewer c = λ there.
    let test = subst (λ R. c.remove.result ≡ list_any (is_at (R c.args.key)) c.args.self.now) same_place_order (rw (c.place_of.ensures, c.self.view_is) at c.remove.ensures.test) in
    one_fewer (length c.args.self.now) (length c.remove.new.self.keys) c.remove.result (rw c.self.view_is at c.remove.ensures.len) (test ∙ in_is c.args.self.now c.args.key ∙ there)
