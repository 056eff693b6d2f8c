-- Rows that ascend and have the routes of a history are the rows after it.
use Rattle.std.proofs.Common.{◌≡◌, ◌==◌, ℕ, Bool, true, false, cond, ◌&&◌, T, List, [], ◌∷◌, ◌++◌, Option, Some, None, refl, ap, sym, subst, ◌∙◌}
use Rattle.std.specs.Prelude.{◌||◌, map}
use Rattle.std.specs.List.{list_any, flat_map, AllByRecursion}
use Rattle.std.specs.List.Sorted.{IsStrictlySortedBy}
use Rattle.std.specs.Map.{keys_of}
use Rattle.std.specs.Option.{unwrap_or}
use Rattle.std.specs.Ordering.{is_eq, is_lt, eq_by_cmp}
use Rattle.std.specs.declared.cmp.Ordering.{Ordering}
use Rattle.std.specs.declared.cmp.Ordering.TheVariants.{Less, Equal, Greater}
use Rattle.std.specs.Cmp.{eq_by_cmp_equiv}
use Rattle.std.specs.FinMap.{find, is_sorted}
use Rattle.std.specs.FinMap.Entries.{below_all, find-put, is_sorted-put, same_entries}
use Rattle.std.proofs.lemmas.List.Folds.{list_any-append}
use Rattle.nr_spec_log.specs.Chain.{LogEntry}
use Rattle.nr_spec_bgp.specs.Attributes.{AttributeBlock}
use Rattle.nr_spec_bgp.specs.Prefixes.{Cidr}
use Rattle.nr_spec_routes.specs.Effects.{Alters, Effect, Empties, Keeps, effect_of, is_with, says}
use Rattle.nr_spec_routes.specs.Keys.{AreAscending, Key, Row, cidr_cmp, is_named, key_cmp, route_in}
use Rattle.nr_spec_routes.specs.Routes.{AreRowsAfter, route_after, word_of}
use Rattle.nr_spec_routes.specs.declared.direction.Direction.{Direction}
use Rattle.nr_spec_routes.specs.Rows.{announced, candidates, in_order, rows_after, with_route}
use Rattle.nr_spec_routes.specs.LookBack.{last_of, later_or}
use Rattle.nr_spec_routes.proofs.KeyOrder.{exact_keys, is_key_of, keys_total}
use Rattle.nr_spec_routes.proofs.Words.{one_more}

is_equal : (o : Ordering) → is_eq o ≡ true → o ≡ Equal
is_equal Less h = cc
is_equal Equal h = refl
is_equal Greater h = cc

same_key : (q k : Key) → eq_by_cmp key_cmp q k ≡ true → q ≡ k
same_key q k h = exact_keys q k (is_equal _ h)

-- ---- two ways to look up

find_route : (rows : List Row) (q : Key) → find key_cmp q rows ≡ route_in rows q
find_route [] q = refl
find_route (r ∷ rows) q = ap (cond (is_eq (key_cmp q r.0)) (Some r.1)) (find_route rows q)

-- ---- in order

below : (k : Key) (rows : List Row) → AllByRecursion (λ y. key_cmp k y ≡ Less) (keys_of rows) → below_all key_cmp k rows ≡ true
below k [] h = refl
below k (r ∷ rows) h = λ i. is_lt (h.0 i) && below k rows h.1 i

ascending : (rows : List Row) → AreAscending rows → is_sorted key_cmp rows ≡ true
unfolding IsStrictlySortedBy
ascending [] h = refl
ascending (r ∷ rows) h = λ i. below r.0 rows h.0 i && ascending rows h.1 i

in_order-sorted : (route : Key → Option AttributeBlock) (keys : List Key) → T (is_sorted key_cmp (in_order route keys))
in_order-sorted route [] = tt
in_order-sorted route (k ∷ keys) = by (in_order-sorted route keys) (route k)
  where
    by : T (is_sorted key_cmp (in_order route keys)) → (r : Option AttributeBlock) → T (is_sorted key_cmp (with_route k r (in_order route keys)))
    by rest None = rest
    by rest (Some b) = is_sorted-put key_cmp keys_total k b (in_order route keys) rest

-- ---- what is found

-- what a key has where it is among others
abbrev pub among : Key → List Key → Bool
among q keys = list_any (eq_by_cmp key_cmp q) keys

elsewhere : (q k : Key) (r : Option AttributeBlock) (rows : List Row) → eq_by_cmp key_cmp q k ≡ false → find key_cmp q (with_route k r rows) ≡ find key_cmp q rows
elsewhere q k None rows apart = refl
elsewhere q k (Some b) rows apart = find-put key_cmp keys_total q k b rows ∙ ap (λ t. cond t (Some b) (find key_cmp q rows)) apart

here : (q k : Key) (r : Option AttributeBlock) (rows : List Row) → eq_by_cmp key_cmp q k ≡ true → (r ≡ None → find key_cmp q rows ≡ None) → find key_cmp q (with_route k r rows) ≡ r
here q k None rows same before = before refl
here q k (Some b) rows same before = find-put key_cmp keys_total q k b rows ∙ ap (λ t. cond t (Some b) (find key_cmp q rows)) same

cond_none : {A : Type 0} (b : Bool) (x : Option A) → x ≡ None → cond b x None ≡ None
cond_none true x h = h
cond_none false x h = refl

find_in_order : (route : Key → Option AttributeBlock) (keys : List Key) (q : Key) → find key_cmp q (in_order route keys) ≡ cond (among q keys) (route q) None
find_in_order route [] q = refl
find_in_order route (k ∷ keys) q = by (find_in_order route keys q) (eq_by_cmp key_cmp q k) refl
  where
    by : find key_cmp q (in_order route keys) ≡ cond (among q keys) (route q) None → (t : Bool) → eq_by_cmp key_cmp q k ≡ t → find key_cmp q (with_route k (route k) (in_order route keys)) ≡ cond (t || among q keys) (route q) None
    by rest true is =
        let one = same_key q k is in
        here q k (route k) (in_order route keys) is (λ none. rest ∙ cond_none (among q keys) (route q) (ap route one ∙ none)) ∙ ap route (sym one)
    by rest false is = elsewhere q k (route k) (in_order route keys) is ∙ rest

-- ---- no other key has a route

absent : (rows : List Row) (q : Key) → among q (keys_of rows) ≡ false → route_in rows q ≡ None
absent [] q h = refl
absent (r ∷ rows) q h = by (absent rows q) (is_eq (key_cmp q r.0)) h
  where
    by : (among q (keys_of rows) ≡ false → route_in rows q ≡ None) → (t : Bool) → (t || among q (keys_of rows)) ≡ false → cond t (Some r.1) (route_in rows q) ≡ None
    by rest true h = cc
    by rest false h = rest h

-- Whoever says this says of no route that it stands.
abbrev Gives_none : Option (Option AttributeBlock) → Type 0
Gives_none w = unwrap_or w None ≡ None

named_keys : (d : Direction) (n : ℕ) (cidrs : List Cidr) (q : Key) → among q (map (λ p. record { prefix = p; direction = d; neighbour = n }) cidrs) ≡ is_with d n q && is_named cidrs q.prefix
named_keys d n [] q = never (is_with d n q)
  where
    never : (b : Bool) → false ≡ b && false
    never true = refl
    never false = refl
named_keys d n (p ∷ cidrs) q =
    let k : Key = record { prefix = p; direction = d; neighbour = n } in
    ap (λ t. t || among q (map (λ p. record { prefix = p; direction = d; neighbour = n }) cidrs)) ((eq_by_cmp_equiv keys_total).symm q k ∙ is_key_of p d n q)
    ∙ (ap (λ t. (is_with d n q && is_eq (cidr_cmp p q.prefix)) || t) (named_keys d n cidrs q) ∙ both (is_with d n q) (is_eq (cidr_cmp p q.prefix)) (is_named cidrs q.prefix))
  where
    both : (i a b : Bool) → ((i && a) || (i && b)) ≡ i && (a || b)
    both true a b = refl
    both false a b = refl

unannounced : (i a w : Bool) (b : AttributeBlock) → i && a ≡ false → Gives_none (cond i (cond a (Some (Some b)) (cond w (Some None) None)) None)
unannounced true true w b h = cc
unannounced true false true b h = refl
unannounced true false false b h = refl
unannounced false a w b h = refl

says_none : (e : Effect) (q : Key) → among q (announced e) ≡ false → Gives_none (says e q)
says_none Keeps q h = refl
says_none (Empties n) q h = by (n == q.neighbour)
  where
    by : (t : Bool) → Gives_none (cond t (Some None) None)
    by true = refl
    by false = refl
says_none (Alters d n u) q h = unannounced (is_with d n q) (is_named u.announced q.prefix) (is_named u.withdrawn q.prefix) u.attributes (sym (named_keys d n u.announced q) ∙ h)

or_false : (a b : Bool) → (a || b) ≡ false → (a ≡ false) × (b ≡ false)
or_false true b h = cc
or_false false b h = (refl, h)

later_none : (x y : Option (Option AttributeBlock)) → Gives_none x → Gives_none y → Gives_none (later_or x y)
later_none (Some x) y h k = h
later_none None y h k = k

last_none : (entries : List LogEntry) (q : Key) → among q (flat_map (λ e. announced (effect_of e)) entries) ≡ false → Gives_none (last_of (word_of q) entries)
last_none [] q h = refl
last_none (e ∷ later) q h =
    let parts = or_false _ _ (sym (list_any-append (eq_by_cmp key_cmp q) (announced (effect_of e)) (flat_map (λ e. announced (effect_of e)) later)) ∙ h) in
    later_none (last_of (word_of q) later) (word_of q e) (last_none later q parts.1) (says_none (effect_of e) q parts.0)

unwrap_none : (w : Option (Option AttributeBlock)) (base : Option AttributeBlock) → Gives_none w → base ≡ None → unwrap_or w base ≡ None
unwrap_none (Some x) base h k = h
unwrap_none None base h k = k

no_other : (base : List Row) (entries : List LogEntry) (q : Key) → among q (candidates base entries) ≡ false → route_after base entries q ≡ None
no_other base entries q h =
    let parts = or_false _ _ (sym (list_any-append (eq_by_cmp key_cmp q) (keys_of base) (flat_map (λ e. announced (effect_of e)) entries)) ∙ h) in
    unwrap_none (last_of (word_of q) entries) (route_in base q) (last_none entries q parts.1) (absent base q parts.0)

-- ---- the rows

always_among : (t : Bool) (route : Option AttributeBlock) → (t ≡ false → route ≡ None) → cond t route None ≡ route
always_among true route h = refl
always_among false route h = sym (h refl)

-- they have the routes that the entries leave
pub rows_are : (base : List Row) (entries : List LogEntry) → AreRowsAfter base entries (rows_after base entries)
unfolding rows_after
rows_are base entries q =
    let route = route_after base entries in
    let keys = candidates base entries in
    sym (find_route (in_order route keys) q) ∙ (find_in_order route keys q ∙ always_among (among q keys) (route q) (no_other base entries q))

holds : (b : Bool) → b ≡ true → T b
holds true h = tt
holds false h = cc

pub rows_once : (base : List Row) (entries : List LogEntry) (rows : List Row) → AreAscending rows → AreRowsAfter base entries rows → rows ≡ rows_after base entries
unfolding rows_after
rows_once base entries rows order are =
    let route = route_after base entries in
    let keys = candidates base entries in
    same_entries key_cmp keys_total exact_keys rows (in_order route keys) (holds _ (ascending rows order)) (in_order-sorted route keys)
    (λ q. find_route rows q ∙ (are q ∙ (sym (rows_are base entries q) ∙ sym (find_route (in_order route keys) q))))

-- after one entry more, where each route is what the entry says, or else what it was
pub rows_step : (base : List Row) (past : List LogEntry) (e : LogEntry) (rows new : List Row) → AreAscending new → ((key : Key) → route_in new key ≡ unwrap_or (says (effect_of e) key) (route_in rows key)) → rows ≡ rows_after base past → new ≡ rows_after base (past ++ e ∷ [])
rows_step base past e rows new order step are =
    rows_once base (past ++ e ∷ []) new order (one_more base rows new past e step (subst (AreRowsAfter base past) (sym are) (rows_are base past)))

-- before the first entry they are those of the base
pub rows_before : (base : List Row) → AreAscending base → base ≡ rows_after base []
rows_before base order = rows_once base [] base order (λ key. refl)

-- ---- they ascend

pub rows_ascend : (base : List Row) (entries : List LogEntry) → AreAscending (rows_after base entries)
unfolding rows_after IsStrictlySortedBy
rows_ascend base entries = back (in_order (route_after base entries) (candidates base entries)) (in_order-sorted (route_after base entries) (candidates base entries))
  where
    is_less : (o : Ordering) → is_lt o ≡ true → o ≡ Less
    is_less Less h = refl
    is_less Equal h = cc
    is_less Greater h = cc

    halves : (a b : Bool) → T (a && b) → (a ≡ true) × T b
    halves true b h = (refl, h)
    halves false b h = absurd h

    all_less : (k : Key) (rows : List Row) → below_all key_cmp k rows ≡ true → AllByRecursion (λ y. key_cmp k y ≡ Less) (keys_of rows)
    all_less k [] h = tt
    all_less k (r ∷ rows) h = let parts = both (is_lt (key_cmp k r.0)) (below_all key_cmp k rows) h in (is_less _ parts.0, all_less k rows parts.1)
      where
        both : (a b : Bool) → (a && b) ≡ true → (a ≡ true) × (b ≡ true)
        both true b h = (refl, h)
        both false b h = absurd cc

    back : (rows : List Row) → T (is_sorted key_cmp rows) → IsStrictlySortedBy key_cmp (keys_of rows)
    back [] h = tt
    back (r ∷ rows) h = let parts = halves (below_all key_cmp r.0 rows) (is_sorted key_cmp rows) h in (all_less r.0 rows parts.0, back rows parts.1)
