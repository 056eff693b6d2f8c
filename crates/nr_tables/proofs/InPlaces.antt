-- Keys by neighbour.
use Rattle.std.proofs.Common.{◌≡◌, ◌==◌, ℕ, ◌+◌, ◌<◌, Bool, true, false, cond, not, ◌&&◌, ◌||◌, List, [], ◌∷◌, refl, ap, sym, ◌∙◌, arith}
use Rattle.std.specs.List.{list_any}
use Rattle.std.specs.BTreeMap.{is_at}
use Rattle.std.specs.Ordering.{is_eq, is_gt, nat_cmp, ordering_then}
use Rattle.std.specs.declared.cmp.Ordering.{Ordering}
use Rattle.std.specs.declared.cmp.Ordering.TheVariants.{Less, Equal, Greater}
use Rattle.std.proofs.lemmas.Bool.Decides.{nat_tests}
use Rattle.nr_spec_routes.specs.Keys.{Key, cidr_cmp, direction_cmp, key_cmp}
use Rattle.nr_spec_routes.specs.declared.direction.Direction.TheVariants.{Received}
use Rattle.nr_tables.specs.Held.{is_in, place_cmp}

is_eq_then : (x y : Ordering) → is_eq (ordering_then x y) ≡ (is_eq x && is_eq y)
is_eq_then Less y = refl
is_eq_then Equal y = refl
is_eq_then Greater y = refl

turned : (a b c : Bool) → (a && (b && c)) ≡ (b && (c && a))
turned true true true = refl
turned true true false = refl
turned true false c = refl
turned false true true = refl
turned false true false = refl
turned false false c = refl

pub place_at : (q k : Key) → is_at (place_cmp q) k ≡ is_at (key_cmp q) k
place_at q k =
    is_eq_then (nat_cmp q.neighbour k.neighbour) (ordering_then (cidr_cmp q.prefix k.prefix) (direction_cmp q.direction k.direction))
    ∙ ap (λ t. is_eq (nat_cmp q.neighbour k.neighbour) && t) (is_eq_then (cidr_cmp q.prefix k.prefix) (direction_cmp q.direction k.direction))
    ∙ turned (is_eq (nat_cmp q.neighbour k.neighbour)) (is_eq (cidr_cmp q.prefix k.prefix)) (is_eq (direction_cmp q.direction k.direction))
    ∙ ap (λ t. is_eq (cidr_cmp q.prefix k.prefix) && t) (sym (is_eq_then (direction_cmp q.direction k.direction) (nat_cmp q.neighbour k.neighbour)))
    ∙ sym (is_eq_then (cidr_cmp q.prefix k.prefix) (ordering_then (direction_cmp q.direction k.direction) (nat_cmp q.neighbour k.neighbour)))

pub in_is : (places : List Key) (q : Key) → list_any (is_at (place_cmp q)) places ≡ is_in places q
in_is [] q = refl
in_is (k ∷ places) q = ap (λ t. t || list_any (is_at (place_cmp q)) places) (place_at q k) ∙ ap (λ t. is_at (key_cmp q) k || t) (in_is places q)

cond_or : (b x : Bool) → cond b true x ≡ (b || x)
cond_or true x = refl
cond_or false x = refl

cond_not : (b x : Bool) → cond b false x ≡ (not b && x)
cond_not true x = refl
cond_not false x = refl

pub added : (old new : List Key) (key : Key) → ((q : Key) → list_any (is_at (place_cmp q)) new ≡ cond (is_at (place_cmp key) q) true (list_any (is_at (place_cmp q)) old))
    → (q : Key) → is_in new q ≡ (is_eq (key_cmp key q) || is_in old q)
added old new key h q =
    sym (in_is new q) ∙ h q ∙ cond_or (is_at (place_cmp key) q) (list_any (is_at (place_cmp q)) old)
    ∙ ap (λ t. t || list_any (is_at (place_cmp q)) old) (place_at key q) ∙ ap (λ t. is_eq (key_cmp key q) || t) (in_is old q)

pub removed : (old new : List Key) (key : Key) → ((q : Key) → list_any (is_at (place_cmp q)) new ≡ cond (is_at (place_cmp key) q) false (list_any (is_at (place_cmp q)) old))
    → (q : Key) → is_in new q ≡ (not (is_eq (key_cmp key q)) && is_in old q)
removed old new key h q =
    sym (in_is new q) ∙ h q ∙ cond_not (is_at (place_cmp key) q) (list_any (is_at (place_cmp q)) old)
    ∙ ap (λ t. not t && list_any (is_at (place_cmp q)) old) (place_at key q) ∙ ap (λ t. not (is_eq (key_cmp key q)) && t) (in_is old q)

pub one_fewer : (old new : ℕ) (b : Bool) → new + cond b 1 0 ≡ old → b ≡ true → new < old
one_fewer old new true h e = omega (arith, h)
one_fewer old new false h e = absurd cc

-- ---- the part of a neighbour

abbrev pub start : ℕ → Key
start n = record { prefix = record { addr = 0; len = 0 }; direction = Received; neighbour = n }

nothing_below : (n : ℕ) → nat_cmp n 0 ≡ Less → ⊥
nothing_below n h = grind (arith, nat_tests)

pub not_before : (n : ℕ) (q : Key) → (n == q.neighbour) ≡ true → is_gt (place_cmp (start n) q) ≡ false
not_before n q h = grind (arith, nat_tests)

pub before_next : (n : ℕ) (q : Key) → (n == q.neighbour) ≡ true → place_cmp q (start (n + 1)) ≡ Less
before_next n q h = grind (arith, nat_tests)

pub between : (n : ℕ) (k : Key) → is_gt (place_cmp (start n) k) ≡ false → place_cmp k (start (n + 1)) ≡ Less → n ≡ k.neighbour
between n k h l = grind (arith, nat_tests)

pub found : (n : ℕ) (places : List Key) (k inside : Key) → is_gt (place_cmp (start n) k) ≡ false → place_cmp k (start (n + 1)) ≡ Less → list_any (is_at (place_cmp k)) places ≡ true → inside ≡ k
    → is_in places (record { prefix = inside.prefix; direction = inside.direction; neighbour = n }) ≡ true
found n places k inside h l there is =
    let same : n ≡ inside.neighbour = between n k h l ∙ ap (λ (x : Key). x.neighbour) (sym is) in
    let one : record { prefix = inside.prefix; direction = inside.direction; neighbour = n } ≡ k =
    ap (λ (m : ℕ). let x : Key = record { prefix = inside.prefix; direction = inside.direction; neighbour = m } in x) same ∙ is in
    ap (is_in places) one ∙ sym (in_is places k) ∙ there
