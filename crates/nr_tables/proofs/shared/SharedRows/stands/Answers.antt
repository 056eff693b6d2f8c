use Rattle.std.proofs.Common.{◌≡◌, ℕ, true, false, eqb, ◌&&◌, List, [], Option, Some, None, ap, sym, subst, ◌∙◌}
use Rattle.std.specs.Prelude.{slice_get, IfSome, is_some}
use Rattle.std.specs.Map.{lookup}
use Rattle.std.specs.BTreeMap.{is_at}
use Rattle.std.specs.Ordering.{is_gt}
use Rattle.std.specs.declared.cmp.Ordering.{Ordering}
use Rattle.std.specs.Prelude.{option_map}
use Rattle.nr_spec_bgp.specs.Attributes.{AttributeBlock}
use Rattle.nr_tables.specs.Shared.{block_at, Shared}
use Rattle.nr_tables.proofs.Named.{route_named, some_named}
use Rattle.nr_spec_routes.specs.Keys as keys
use Rattle.nr_spec_routes.specs.Keys.{key_cmp, route_in}
use Rattle.nr_tables.proofs.shared.SharedRows.stands.Goals as goal
use Rattle.nr_tables.proofs.First.{first, none_stands, some_stands}
use Rattle.nr_tables.proofs.Order.{same_order}

pub returns-in-Some : goal.returns-in-Some
returns-in-Some c =
    let p = c.args.prefix.now in
    let blocks = c.self.inside.blocks.blocks in
    let entries = c.self.inside.rows.entries in
    let key = c.in-Some.key.now in
    let there = subst (λ (R : keys.Key → keys.Key → Ordering). IfSome (slice_get c.range.result 0) (λ e. ((is_gt (R (first p) e.0) ≡ false) × Unit {0}) × (lookup (is_at (R e.0)) entries ≡ Some e.1))) same_order ((c.range.ensures.in_range tt).1) in
    let at = subst (λ (l : List (keys.Key × ℕ)). IfSome (slice_get l 0) (λ e. ((is_gt (key_cmp (first p) e.0) ≡ false) × Unit {0}) × (lookup (is_at (key_cmp e.0)) entries ≡ Some e.1))) c.in-Some.ensures.steps there in
    let least = subst (λ (R : keys.Key → keys.Key → Ordering). (q : keys.Key) → (is_gt (R (first p) q) ≡ false) × Unit {0} → is_some (lookup (is_at (R q)) entries) ≡ true → IfSome (slice_get c.range.result 0) (λ e. is_gt (R e.0 q) ≡ false)) same_order ((c.range.ensures.in_range tt).2) in
    c.eq.ensures
    ∙ (ap (λ (k : keys.Key). eqb k.prefix.addr p.addr && eqb k.prefix.len p.len) c.key.view_is
    ∙ some_stands c.args.self.now.rows p key (block_at blocks c.in-Some.field-0-1.now) at.0.0
    (ap (λ (s : Shared). route_in s.rows key) (sym c.self.view_is) ∙ route_named blocks entries key ∙ ap (option_map (block_at blocks)) at.1)
    (λ q b from is. subst (λ (l : List (keys.Key × ℕ)). IfSome (slice_get l 0) (λ e. is_gt (key_cmp e.0 q) ≡ false)) c.in-Some.ensures.steps
    (least q (from, tt) (sym (some_named blocks (lookup (is_at (key_cmp q)) entries))
    ∙ ap (λ (o : Option AttributeBlock). is_some o) (sym (route_named blocks entries q) ∙ ap (λ (s : Shared). route_in s.rows q) c.self.view_is ∙ is)))))

pub returns-in-None : goal.returns-in-None
returns-in-None c =
    let blocks = c.self.inside.blocks.blocks in
    let entries = c.self.inside.rows.entries in
    let h = subst (λ (R : keys.Key → keys.Key → Ordering). c.range.result ≡ [] → (q : keys.Key) → (is_gt (R (first c.args.prefix.now) q) ≡ false) × Unit {0} → lookup (is_at (R q)) entries ≡ None) same_order ((c.range.ensures.in_range tt).5) in
    none_stands c.args.self.now.rows c.args.prefix.now
    (λ q from. ap (λ (s : Shared). route_in s.rows q) (sym c.self.view_is) ∙ route_named blocks entries q ∙ ap (option_map (block_at blocks)) (h c.in-None.ensures.steps.0 q (from, tt)))
