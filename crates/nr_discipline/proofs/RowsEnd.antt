-- A row that stands behind all others, put among them.
use Rattle.std.proofs.Common.{◌≡◌, Bool, true, false, cond, ◌&&◌, T, List, [], ◌∷◌, ◌++◌, Option, Some, None, Ok, refl, ap, sym, subst, ◌∙◌}
use Rattle.std.specs.List.{AllByRecursion}
use Rattle.std.specs.List.Sorted.{IsStrictlySortedBy}
use Rattle.std.specs.Map.{keys_of}
use Rattle.std.specs.Ordering.{is_eq, is_lt, ordering_reverse}
use Rattle.std.specs.declared.cmp.Ordering.{Ordering}
use Rattle.std.specs.declared.cmp.Ordering.TheVariants.{Less, Equal, Greater}
use Rattle.std.specs.Cmp.{eq_by_cmp_equiv}
use Rattle.std.specs.FinMap.{find, is_sorted}
use Rattle.std.specs.FinMap.Entries.{below_all, same_entries}
use Rattle.nr_spec_bgp.specs.Attributes.{AttributeBlock}
use Rattle.nr_spec_routes.specs.Keys.{AreAscending, Key, Row, key_cmp, route_in}
use Rattle.nr_spec_routes.proofs.KeyOrder.{exact_keys, keys_total}
use Rattle.nr_spec_wire.specs.Reading.{Spot, wants}
use Rattle.nr_spec_wire.proofs.Steps.{bind_ok, ok_is, wants_ok}
use Rattle.nr_spec_bodies.specs.Reading.{is_behind, key_at, route_at, row_at}

is_equal : (o : Ordering) → is_eq o ≡ true → o ≡ Equal
is_equal Less h = cc
is_equal Equal h = refl
is_equal Greater h = cc

is_less : (o : Ordering) → is_lt o ≡ true → o ≡ Less
is_less Less h = refl
is_less Equal h = absurd cc
is_less Greater h = absurd cc

-- ---- one list with these routes ascends

find_route : (rows : List Row) (q : Key) → find key_cmp q rows ≡ route_in rows q
find_route [] q = refl
find_route (r ∷ rows) q = ap (cond (is_eq (key_cmp q r.0)) (Some r.1)) (find_route rows q)

below : (k : Key) (rows : List Row) → AllByRecursion (λ y. key_cmp k y ≡ Less) (keys_of rows) → below_all key_cmp k rows ≡ true
below k [] h = refl
below k (r ∷ rows) h = λ i. is_lt (h.0 i) && below k rows h.1 i

ascending : (rows : List Row) → AreAscending rows → is_sorted key_cmp rows ≡ true
unfolding IsStrictlySortedBy
ascending [] h = refl
ascending (r ∷ rows) h = λ i. below r.0 rows h.0 i && ascending rows h.1 i

holds : (b : Bool) → b ≡ true → T b
holds true h = tt
holds false h = cc

one_list : (rows new : List Row) → AreAscending rows → AreAscending new → ((q : Key) → route_in new q ≡ route_in rows q) → new ≡ rows
one_list rows new up order same =
    same_entries key_cmp keys_total exact_keys new rows (holds _ (ascending new order)) (holds _ (ascending rows up))
    (λ q. find_route new q ∙ same q ∙ sym (find_route rows q))

-- ---- the last row

last_above : (k : Key) (rows : List Row) (last : Key) (b : AttributeBlock) → AllByRecursion (λ y. key_cmp k y ≡ Less) (keys_of (rows ++ (last, b) ∷ [])) → key_cmp k last ≡ Less
last_above k [] last b h = h.0
last_above k (r ∷ rows) last b h = last_above k rows last b h.1

not_found : (q k : Key) → key_cmp q k ≡ Less → is_eq (key_cmp k q) ≡ false
not_found q k less = ap is_eq (keys_total.antisymm k q ∙ ap ordering_reverse less)

route_last : (rows : List Row) (k : Key) (b : AttributeBlock) (q : Key) → AreAscending (rows ++ (k, b) ∷ []) → route_in (rows ++ (k, b) ∷ []) q ≡ cond (is_eq (key_cmp k q)) (Some b) (route_in rows q)
unfolding IsStrictlySortedBy
route_last [] k b q up = ap (λ t. cond t (Some b) None) ((eq_by_cmp_equiv keys_total).symm q k)
route_last (r ∷ rows) k b q up = by (is_eq (key_cmp q r.0)) refl (route_last rows k b q up.1)
  where
    by : (t : Bool) → is_eq (key_cmp q r.0) ≡ t → route_in (rows ++ (k, b) ∷ []) q ≡ cond (is_eq (key_cmp k q)) (Some b) (route_in rows q)
        → cond t (Some r.1) (route_in (rows ++ (k, b) ∷ []) q) ≡ cond (is_eq (key_cmp k q)) (Some b) (cond t (Some r.1) (route_in rows q))
    by true is rest =
        let one : q ≡ r.0 = exact_keys q r.0 (is_equal _ is) in
        let less = ap (λ (x : Key). key_cmp x k) one ∙ last_above r.0 rows k b up.0 in
        ap (λ t. cond t (Some b) (Some r.1)) (sym (not_found q k less))
    by false is rest = rest

-- a row put behind all others stands at their end
pub put_last : (rows new : List Row) (k : Key) (b : AttributeBlock) → AreAscending (rows ++ (k, b) ∷ []) → AreAscending new
    → ((q : Key) → route_in new q ≡ cond (is_eq (key_cmp k q)) (Some b) (route_in rows q)) → new ≡ rows ++ (k, b) ∷ []
put_last rows new k b up order routes = one_list (rows ++ (k, b) ∷ []) new up order (λ q. routes q ∙ sym (route_last rows k b q up))

-- ---- what stands behind a key ascends at the end of rows

abbrev pub TakesBehind : Option Key → List Row → Type 0
TakesBehind before rows = (k : Key) (b : AttributeBlock) → is_behind before k ≡ true → AreAscending (rows ++ (k, b) ∷ [])

one_row : (k : Key) (b : AttributeBlock) → AreAscending ((k, b) ∷ [])
unfolding IsStrictlySortedBy
one_row k b = (tt, tt)

pub none_behind : (rows : List Row) → rows ≡ [] → TakesBehind None rows
none_behind rows none k b h = subst (λ (l : List Row). AreAscending (l ++ (k, b) ∷ [])) (sym none) (one_row k b)

above_one_more : (x : Key) (rows : List Row) (k next : Key) (b c : AttributeBlock) → key_cmp k next ≡ Less → AllByRecursion (λ y. key_cmp x y ≡ Less) (keys_of (rows ++ (k, b) ∷ []))
    → AllByRecursion (λ y. key_cmp x y ≡ Less) (keys_of ((rows ++ (k, b) ∷ []) ++ (next, c) ∷ []))
above_one_more x [] k next b c less h = (h.0, (keys_total.trans x k next h.0 less, tt))
above_one_more x (r ∷ rows) k next b c less h = (h.0, above_one_more x rows k next b c less h.1)

one_more : (rows : List Row) (k next : Key) (b c : AttributeBlock) → key_cmp k next ≡ Less → AreAscending (rows ++ (k, b) ∷ []) → AreAscending ((rows ++ (k, b) ∷ []) ++ (next, c) ∷ [])
unfolding IsStrictlySortedBy
one_more [] k next b c less h = ((less, tt), (tt, tt))
one_more (r ∷ rows) k next b c less h = (above_one_more r.0 rows k next b c less h.0, one_more rows k next b c less h.1)

pub next_behind : (rows new : List Row) (k : Key) (b : AttributeBlock) → new ≡ rows ++ (k, b) ∷ [] → AreAscending (rows ++ (k, b) ∷ []) → TakesBehind (Some k) new
next_behind rows new k b is up next c h = subst (λ (l : List Row). AreAscending (l ++ (next, c) ∷ [])) (sym is) (one_more rows k next b c (is_less _ h) up)

-- a row that is read stands behind the one before
pub read_behind : (before : Option Key) (s next : Spot) (r : Row) → row_at before s ≡ Ok (r, next) → is_behind before r.0 ≡ true
unfolding row_at
read_behind before s next r e =
    let a = bind_ok (key_at s) _ (r, next) e in
    let b = bind_ok (wants (is_behind before a.0.0) s.at a.0) _ (r, next) a.2 in
    let w = wants_ok (is_behind before a.0.0) s.at a.0 b.0 b.1 in
    let c = bind_ok (route_at b.0.1) _ (r, next) b.2 in
    let same : b.0.0 ≡ r.0 = ap (λ (x : Row × Spot). x.0.0) (ok_is ((b.0.0, c.0.0), c.0.1) (r, next) c.2) in
    subst (λ (k : Key). is_behind before k ≡ true) (ap (λ (x : Key × Spot). x.0) w.1 ∙ same) w.0
