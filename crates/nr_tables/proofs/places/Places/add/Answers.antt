use Rattle.std.proofs.Common.{◌≡◌, true, cond, subst}
use Rattle.std.specs.List.{list_any}
use Rattle.std.specs.BTreeMap.{is_at}
use Rattle.nr_spec_routes.specs.Keys as keys
use Rattle.nr_tables.proofs.places.Places.add.Goals as goal
use Rattle.nr_tables.proofs.InPlaces.{added}
use Rattle.nr_tables.proofs.Order.{same_place_order}

pub returns-clause-ok : goal.returns-clause-ok
returns-clause-ok c = added c.args.self.now c.insert.new.self.keys c.args.key
    (subst (λ R. (q : keys.Key) → list_any (is_at (R q)) c.insert.new.self.keys ≡ cond (is_at (R c.args.key) q) true (list_any (is_at (R q)) c.args.self.now)) same_place_order
    (rw (c.place_of.ensures, c.self.view_is) at c.in_ok-insert.ensures.updates.0))
