-- Where a prefix stands.
use Rattle.std.proofs.Common.{◌≡◌, ℕ, Bool, true, false, cond, eqb, ◌&&◌, ◌||◌, List, [], ◌∷◌, Option, Some, None, refl, sym, ap, ◌∙◌, arith}
use Rattle.std.specs.Prelude.{◌↔◌, IsTrue}
use Rattle.std.specs.BTreeMap.{is_at}
use Rattle.std.specs.Ordering.{is_eq, nat_cmp, ordering_then}
use Rattle.std.specs.declared.cmp.Ordering.{Ordering}
use Rattle.std.specs.declared.cmp.Ordering.TheVariants.{Less, Equal, Greater}
use Rattle.std.proofs.lemmas.Bool.{eqb-true}
use Rattle.std.proofs.lemmas.Bool.Decides.{nat_tests}
use Rattle.nr_spec_log.specs.Chain.{LogEntry}
use Rattle.nr_spec_bgp.specs.Prefixes.{Cidr}
use Rattle.nr_spec_bgp.specs.Attributes.{AttributeBlock}
use Rattle.nr_spec_routes.specs.declared.direction.Direction.{Direction}
use Rattle.nr_spec_routes.specs.Keys.{Key, Row, cidr_cmp, direction_cmp, key_cmp, route_in, stands_in}
use Rattle.nr_spec_routes.specs.Routes.{route_after}
use Rattle.nr_spec_routes.specs.Rows.{rows_after}
use Rattle.nr_spec_routes.proofs.KeyOrder.{exact_keys}
use Rattle.nr_spec_routes.proofs.RowsOnce.{rows_are}

same_number : (n : ℕ) → eqb n n ≡ true
same_number n = grind arith

pub of_itself : (p : Cidr) → (eqb p.addr p.addr && eqb p.len p.len) ≡ true
of_itself p = λ i. same_number p.addr i && same_number p.len i

parts : (a b : Bool) → (a && b) ≡ true → (a ≡ true) × (b ≡ true)
parts true true h = (refl, refl)
parts true false h = absurd cc
parts false b h = absurd cc

cidr_is : (p q : Cidr) → p.addr ≡ q.addr → p.len ≡ q.len → p ≡ q
cidr_is p q a l = λ i. record { addr = a i; len = l i }

same_cidr : (p q : Cidr) → (eqb p.addr q.addr && eqb p.len q.len) ≡ true → p ≡ q
same_cidr p q h = let e = parts _ _ h in cidr_is p q (eqb-true _ _ e.0) (eqb-true _ _ e.1)

equal_itself : (n : ℕ) → nat_cmp n n ≡ Equal
equal_itself n = grind (arith, nat_tests)

at_itself : (k : Key) → is_at (key_cmp k) k ≡ true
at_itself k = grind (arith, nat_tests)

at_equal : (o : Ordering) → is_eq o ≡ true → o ≡ Equal
at_equal Less h = absurd cc
at_equal Equal h = refl
at_equal Greater h = absurd cc

abbrev IsOf : List Row → Cidr → Type 0
IsOf rows p = (q : Key) × (route : AttributeBlock) × (q.prefix ≡ p) × (route_in rows q ≡ Some route)

-- a prefix that stands has a row
pub has_row : (rows : List Row) (p : Cidr) → stands_in rows p ≡ true → IsOf rows p
has_row [] p h = absurd cc
has_row (r ∷ rows) p h = by (eqb r.0.prefix.addr p.addr && eqb r.0.prefix.len p.len) refl (has_row rows p) h
  where
    first : (b : Bool) (x y : Option AttributeBlock) → b ≡ true → cond b x y ≡ x
    first true x y e = refl
    first false x y e = absurd cc

    either : (b : Bool) (q : Key) → is_at (key_cmp q) r.0 ≡ b → q.prefix ≡ p → (route : AttributeBlock) → route_in rows q ≡ Some route → IsOf (r ∷ rows) p
    either true q e same route at = (q, r.1, same, first _ _ _ e)
    either false q e same route at = (q, route, same, ap (λ b. cond b (Some r.1) (route_in rows q)) e ∙ at)

    by : (b : Bool) → (eqb r.0.prefix.addr p.addr && eqb r.0.prefix.len p.len) ≡ b → (stands_in rows p ≡ true → IsOf rows p) → (b || stands_in rows p) ≡ true → IsOf (r ∷ rows) p
    by true e later h = (r.0, r.1, same_cidr r.0.prefix p e, first _ _ _ (at_itself r.0))
    by false e later h = let found = later h in either (is_at (key_cmp found.0) r.0) found.0 refl found.2 found.1 found.3

-- a row stands
pub row_stands : (rows : List Row) (q : Key) (route : AttributeBlock) → route_in rows q ≡ Some route → stands_in rows q.prefix ≡ true
row_stands [] q route h = absurd cc
row_stands (r ∷ rows) q route h = by (is_at (key_cmp q) r.0) refl (row_stands rows q route) h
  where
    later_or_true : (b : Bool) → (b || true) ≡ true
    later_or_true true = refl
    later_or_true false = refl

    by : (b : Bool) → is_at (key_cmp q) r.0 ≡ b → (route_in rows q ≡ Some route → stands_in rows q.prefix ≡ true) → cond b (Some r.1) (route_in rows q) ≡ Some route → stands_in (r ∷ rows) q.prefix ≡ true
    by true e later h =
        let same : q ≡ r.0 = exact_keys q r.0 (at_equal _ e) in
        ap (λ (k : Key). (eqb k.prefix.addr q.prefix.addr && eqb k.prefix.len q.prefix.len) || stands_in rows q.prefix) (sym same)
        ∙ ap (λ b. b || stands_in rows q.prefix) (of_itself q.prefix)
    by false e later h = ap (λ b. (eqb r.0.prefix.addr q.prefix.addr && eqb r.0.prefix.len q.prefix.len) || b) (later h) ∙ later_or_true _

pub stands_is : (base : List Row) (entries : List LogEntry) (p : Cidr) → IsTrue (stands_in (rows_after base entries) p)
    ↔ ((direction : Direction) × (neighbour : ℕ) × (route : AttributeBlock) × (route_after base entries (record { prefix = p; direction = direction; neighbour = neighbour }) ≡ Some route))
stands_is base entries p = (
  λ h.
      let found = has_row (rows_after base entries) p h in
      let key : record { prefix = p; direction = found.0.direction; neighbour = found.0.neighbour } ≡ found.0 = λ i. record { prefix = sym found.2 i; direction = found.0.direction; neighbour = found.0.neighbour } in
      (found.0.direction, found.0.neighbour, found.1, ap (route_after base entries) key ∙ (sym (rows_are base entries found.0) ∙ found.3)),
  λ h. row_stands (rows_after base entries) (record { prefix = p; direction = h.0; neighbour = h.1 }) h.2 (rows_are base entries (record { prefix = p; direction = h.0; neighbour = h.1 }) ∙ h.3),
)
