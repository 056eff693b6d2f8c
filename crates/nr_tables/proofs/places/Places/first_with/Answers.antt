use Rattle.std.proofs.Common.{◌≡◌, ◌+◌, true, false, List, [], subst, ap, sym, refl, ◌∙◌}
use Rattle.std.specs.Prelude.{slice_get, IfSome}
use Rattle.std.specs.List.{list_any}
use Rattle.std.specs.BTreeMap.{is_at}
use Rattle.std.specs.Ordering.{is_gt}
use Rattle.std.specs.declared.cmp.Ordering.{Ordering}
use Rattle.std.specs.declared.cmp.Ordering.TheVariants.{Less}
use Rattle.nr_spec_routes.specs.Keys as keys
use Rattle.nr_tables.proofs.places.Places.first_with.Goals as goal
use Rattle.nr_tables.proofs.InPlaces.{before_next, found, in_is, not_before, start}
use Rattle.nr_tables.specs.Held.{is_in, place_cmp}
use Rattle.nr_tables.proofs.Order.{same_place_order}

pub returns-in-None : goal.returns-in-None
returns-in-None c = λ (q : keys.Key) same.
    let h = subst (λ (R : keys.Key → keys.Key → Ordering). c.range.result ≡ [] → (q : keys.Key) → (is_gt (R c.start_of-start.result q) ≡ false) × (R q c.start_of-end.result ≡ Less) → list_any (is_at (R q)) c.self.inside.set.keys ≡ false) same_place_order ((c.range.ensures.in_range tt).5) in
    let s : c.start_of-start.result ≡ start c.args.neighbour = c.start_of-start.ensures ∙ ap start c.from.ensures in
    let e : c.start_of-end.result ≡ start (c.args.neighbour + 1) = c.start_of-end.ensures ∙ ap (λ n. start (n + 1)) c.from-2.ensures in
    ap (λ l. is_in l q) (sym c.self.view_is) ∙ sym (in_is c.self.inside.set.keys q)
    ∙ h c.in-None.ensures.steps.0 q (ap (λ k. is_gt (place_cmp k q)) s ∙ not_before c.args.neighbour q same, ap (λ k. place_cmp q k) e ∙ before_next c.args.neighbour q same)

pub returns-in-Some : goal.returns-in-Some
returns-in-Some c =
    let h = subst (λ (R : keys.Key → keys.Key → Ordering). IfSome (slice_get c.range.result 0) (λ k. ((is_gt (R c.start_of-start.result k) ≡ false) × (R k c.start_of-end.result ≡ Less)) × (list_any (is_at (R k)) c.self.inside.set.keys ≡ true))) same_place_order ((c.range.ensures.in_range tt).1) in
    let s : c.start_of-start.result ≡ start c.args.neighbour = c.start_of-start.ensures ∙ ap start c.from.ensures in
    let e : c.start_of-end.result ≡ start (c.args.neighbour + 1) = c.start_of-end.ensures ∙ ap (λ n. start (n + 1)) c.from-2.ensures in
    let at = subst (λ (l : List keys.Key). IfSome (slice_get l 0) (λ k. ((is_gt (place_cmp c.start_of-start.result k) ≡ false) × (place_cmp k c.start_of-end.result ≡ Less)) × (list_any (is_at (place_cmp k)) c.self.inside.set.keys ≡ true))) c.in-Some.ensures.steps h in (
      refl,
      ap (λ (l : List keys.Key). is_in l (record { prefix = c.place.inside.prefix; direction = c.place.inside.direction; neighbour = c.args.neighbour })) (sym c.self.view_is) ∙ found c.args.neighbour c.self.inside.set.keys c.in-Some.place.now (record { prefix = c.place.inside.prefix; direction = c.place.inside.direction; neighbour = c.place.inside.neighbour })
          (ap (λ k. is_gt (place_cmp k c.in-Some.place.now)) (sym s) ∙ at.0.0) (ap (λ k. place_cmp c.in-Some.place.now k) (sym e) ∙ at.0.1) at.1 c.place.view_is,
    )
