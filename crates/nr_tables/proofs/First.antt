-- The first row that isn't before those of a prefix.
use Rattle.std.proofs.Common.{◌≡◌, ℕ, Bool, true, false, eqb, ◌&&◌, List, Option, Some, None, refl, sym, ap, subst, ◌∙◌, arith}
use Rattle.std.specs.Ordering.{is_gt, nat_cmp, ordering_then}
use Rattle.std.specs.declared.cmp.Ordering.{Ordering}
use Rattle.std.specs.declared.cmp.Ordering.TheVariants.{Less, Equal, Greater}
use Rattle.std.proofs.lemmas.Bool.{eqb-true}
use Rattle.std.proofs.lemmas.Bool.Decides.{nat_tests}
use Rattle.nr_spec_bgp.specs.Prefixes.{Cidr}
use Rattle.nr_spec_bgp.specs.Attributes.{AttributeBlock}
use Rattle.nr_spec_routes.specs.declared.direction.Direction.TheVariants.{Received}
use Rattle.nr_spec_routes.specs.Keys.{Key, Row, cidr_cmp, direction_number, key_cmp, route_in, stands_in}
use Rattle.nr_spec_routes.proofs.Stands.{has_row, of_itself, row_stands}

abbrev pub first : Cidr → Key
first p = record { prefix = p; direction = Received; neighbour = 0 }

lowest : (n : ℕ) → is_gt (nat_cmp 0 n) ≡ false
lowest n = grind (arith, nat_tests)

not_before_itself : (q : Key) → is_gt (key_cmp (first q.prefix) q) ≡ false
not_before_itself q =
    by (nat_cmp 0 (direction_number q.direction)) (nat_cmp 0 q.neighbour) (lowest (direction_number q.direction)) (lowest q.neighbour)
  where
    same : (n : ℕ) → nat_cmp n n ≡ Equal
    same n = grind (arith, nat_tests)

    then_low : (d n : Ordering) → is_gt d ≡ false → is_gt n ≡ false → is_gt (ordering_then d n) ≡ false
    then_low Less n h k = refl
    then_low Equal n h k = k
    then_low Greater n h k = absurd cc

    by : (d n : Ordering) → is_gt d ≡ false → is_gt n ≡ false → is_gt (ordering_then (cidr_cmp q.prefix q.prefix) (ordering_then d n)) ≡ false
    by d n h k = (λ i. is_gt (ordering_then (ordering_then (same q.prefix.addr i) (same q.prefix.len i)) (ordering_then d n))) ∙ then_low d n h k

not_before : (p : Cidr) (q : Key) → q.prefix ≡ p → is_gt (key_cmp (first p) q) ≡ false
not_before p q e = subst (λ (c : Cidr). is_gt (key_cmp (first c) q) ≡ false) e (not_before_itself q)

then_first : (a b : Ordering) → is_gt (ordering_then a b) ≡ false → is_gt a ≡ false
then_first Less b h = refl
then_first Equal b h = refl
then_first Greater b h = h

-- of two prefixes neither of which is after the other
one_cidr : (p k : Cidr) → is_gt (cidr_cmp p k) ≡ false → is_gt (cidr_cmp k p) ≡ false → (k.addr ≡ p.addr) × (k.len ≡ p.len)
one_cidr p k h l = (grind (arith, nat_tests), grind (arith, nat_tests))

between : (p : Cidr) (k q : Key) → is_gt (key_cmp (first p) k) ≡ false → is_gt (key_cmp k q) ≡ false → q.prefix ≡ p → (k.prefix.addr ≡ p.addr) × (k.prefix.len ≡ p.len)
between p k q h l e =
    one_cidr p k.prefix (then_first (cidr_cmp p k.prefix) _ h) (subst (λ (c : Cidr). is_gt (cidr_cmp k.prefix c) ≡ false) e (then_first (cidr_cmp k.prefix q.prefix) _ l))

some_none : (b : AttributeBlock) (o : Option AttributeBlock) → o ≡ Some b → o ≡ None → ⊥
some_none b (Some x) e h = absurd cc
some_none b None e h = absurd cc

pub none_stands : (rows : List Row) (p : Cidr) → ((q : Key) → is_gt (key_cmp (first p) q) ≡ false → route_in rows q ≡ None) → false ≡ stands_in rows p
none_stands rows p none = by (stands_in rows p) refl
  where
    by : (b : Bool) → stands_in rows p ≡ b → false ≡ b
    by false e = refl
    by true e =
        let found = has_row rows p e in
        absurd (some_none found.1 (route_in rows found.0) found.3 (none found.0 (not_before p found.0 found.2)))

pub some_stands : (rows : List Row) (p : Cidr) (k : Key) (b : AttributeBlock) → is_gt (key_cmp (first p) k) ≡ false → route_in rows k ≡ Some b
    → ((q : Key) (c : AttributeBlock) → is_gt (key_cmp (first p) q) ≡ false → route_in rows q ≡ Some c → is_gt (key_cmp k q) ≡ false)
    → (eqb k.prefix.addr p.addr && eqb k.prefix.len p.len) ≡ stands_in rows p
some_stands rows p k b from is least = by (eqb k.prefix.addr p.addr && eqb k.prefix.len p.len) (stands_in rows p) refl refl
  where
    parts : (x y : Bool) → (x && y) ≡ true → (x ≡ true) × (y ≡ true)
    parts true true h = (refl, refl)
    parts true false h = absurd cc
    parts false y h = absurd cc

    never : (x : Bool) → x ≡ true → x ≡ false → ⊥
    never true e h = absurd cc
    never false e h = absurd cc

    by : (x y : Bool) → (eqb k.prefix.addr p.addr && eqb k.prefix.len p.len) ≡ x → stands_in rows p ≡ y → x ≡ y
    by true true e h = refl
    by false false e h = refl
    by true false e h =
        let same = parts (eqb k.prefix.addr p.addr) (eqb k.prefix.len p.len) e in
        let one : k.prefix ≡ p = λ i. record { addr = eqb-true k.prefix.addr p.addr same.0 i; len = eqb-true k.prefix.len p.len same.1 i } in
        absurd (never (stands_in rows p) (ap (stands_in rows) (sym one) ∙ row_stands rows k b is) h)
    by false true e h =
        let found = has_row rows p h in
        let equal = between p k found.0 from (least found.0 found.1 (not_before p found.0 found.2) found.3) found.2 in
        absurd (never (eqb k.prefix.addr p.addr && eqb k.prefix.len p.len) ((λ i. eqb (equal.0 i) p.addr && eqb (equal.1 i) p.len) ∙ of_itself p) e)
