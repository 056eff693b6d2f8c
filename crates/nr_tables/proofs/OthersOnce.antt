-- Prefixes in order without repetition are those in order and each once.
use Rattle.std.proofs.Common.{◌≡◌, Bool, true, false, cond, ◌||◌, List, [], ◌∷◌, Option, Some, None, refl, ap, sym, ◌∙◌, arith}
use Rattle.std.specs.Prelude.{map}
use Rattle.std.specs.List.{AllByRecursion}
use Rattle.std.specs.List.Sorted.{IsStrictlySortedBy}
use Rattle.std.specs.Map.{keys_of}
use Rattle.std.specs.Ordering.{is_eq, is_gt, nat_cmp, ordering_then}
use Rattle.std.specs.declared.cmp.Ordering.{Ordering}
use Rattle.std.specs.declared.cmp.Ordering.TheVariants.{Less, Equal, Greater}
use Rattle.std.proofs.lemmas.Bool.Decides.{nat_tests}
use Rattle.nr_spec_bgp.specs.Prefixes.{Cidr}
use Rattle.nr_spec_routes.specs.Keys.{Key, Row, AreAscending, cidr_cmp, key_cmp, direction_cmp, is_named, prefixes_in, standing}
use Rattle.nr_spec_routes.proofs.Once.{only_once}
use Rattle.nr_spec_routes.proofs.KeyOrder.{cidrs_total}
use Rattle.nr_tables.specs.Others.{is_last, others}

-- ---- who is among them

abbrev last_named : Option Cidr → Cidr → Bool
last_named None q = false
last_named (Some last) q = is_eq (cidr_cmp last q)

same_test : (l p q : Cidr) → is_last (Some l) p ≡ true → is_eq (cidr_cmp p q) ≡ is_eq (cidr_cmp l q)
same_test l p q h = grind (arith, nat_tests)

again : (a b : Bool) → (a || b) ≡ (a || (a || b))
again true b = refl
again false b = refl

named_others : (last : Option Cidr) (ps : List Cidr) (q : Cidr) → (last_named last q || is_named (others last ps) q) ≡ (last_named last q || is_named ps q)
named_others last [] q = refl
named_others None (p ∷ ps) q = named_others (Some p) ps q
named_others (Some l) (p ∷ ps) q = by (is_last (Some l) p) refl (named_others (Some l) ps q) (named_others (Some p) ps q)
  where
    by : (t : Bool) → is_last (Some l) p ≡ t
        → (is_eq (cidr_cmp l q) || is_named (others (Some l) ps) q) ≡ (is_eq (cidr_cmp l q) || is_named ps q)
        → (is_eq (cidr_cmp p q) || is_named (others (Some p) ps) q) ≡ (is_eq (cidr_cmp p q) || is_named ps q)
        → (is_eq (cidr_cmp l q) || is_named (cond t (others (Some l) ps) (p ∷ others (Some p) ps)) q) ≡ (is_eq (cidr_cmp l q) || (is_eq (cidr_cmp p q) || is_named ps q))
    by true is same new = same ∙ again (is_eq (cidr_cmp l q)) (is_named ps q) ∙ ap (λ t. is_eq (cidr_cmp l q) || (t || is_named ps q)) (sym (same_test l p q is))
    by false is same new = ap (λ t. is_eq (cidr_cmp l q) || t) new

-- ---- in order

abbrev NotAbove : Cidr → List Cidr → Type 0
NotAbove l ps = AllByRecursion (λ q. is_gt (cidr_cmp l q) ≡ false) ps

abbrev Ascend : List Cidr → Type 0
Ascend [] = Unit {0}
Ascend (p ∷ ps) = NotAbove p ps × Ascend ps

less_of : (l p : Cidr) → is_gt (cidr_cmp l p) ≡ false → is_last (Some l) p ≡ false → cidr_cmp l p ≡ Less
less_of l p h d = grind (arith, nat_tests)

less_on : (l p q : Cidr) → cidr_cmp l p ≡ Less → cidr_cmp p q ≡ Less → cidr_cmp l q ≡ Less
less_on l p q a b = cidrs_total.trans l p q a b

all_less : (l p : Cidr) (ps : List Cidr) → cidr_cmp l p ≡ Less → AllByRecursion (λ q. cidr_cmp p q ≡ Less) ps → AllByRecursion (λ q. cidr_cmp l q ≡ Less) ps
all_less l p [] h all = tt
all_less l p (q ∷ ps) h all = (less_on l p q h all.0, all_less l p ps h all.1)

sorted_others : (l : Cidr) (ps : List Cidr) → NotAbove l ps → Ascend ps → AllByRecursion (λ q. cidr_cmp l q ≡ Less) (others (Some l) ps) × IsStrictlySortedBy cidr_cmp (others (Some l) ps)
unfolding IsStrictlySortedBy
sorted_others l [] above up = (tt, tt)
sorted_others l (p ∷ ps) above up = by (is_last (Some l) p) refl (sorted_others l ps above.1 up.1) (sorted_others p ps up.0 up.1)
  where
    by : (t : Bool) → is_last (Some l) p ≡ t
        → AllByRecursion (λ q. cidr_cmp l q ≡ Less) (others (Some l) ps) × IsStrictlySortedBy cidr_cmp (others (Some l) ps)
        → AllByRecursion (λ q. cidr_cmp p q ≡ Less) (others (Some p) ps) × IsStrictlySortedBy cidr_cmp (others (Some p) ps)
        → AllByRecursion (λ q. cidr_cmp l q ≡ Less) (cond t (others (Some l) ps) (p ∷ others (Some p) ps)) × IsStrictlySortedBy cidr_cmp (cond t (others (Some l) ps) (p ∷ others (Some p) ps))
    by true is same new = same
    by false is same new = let less = less_of l p above.0 is in ((less, all_less l p (others (Some p) ps) less new.0), new)

first_sorted : (ps : List Cidr) → Ascend ps → IsStrictlySortedBy cidr_cmp (others None ps)
unfolding IsStrictlySortedBy
first_sorted [] up = tt
first_sorted (p ∷ ps) up = sorted_others p ps up.0 up.1

-- ---- of rows

prefix_not_above : (a b : Key) → key_cmp a b ≡ Less → is_gt (cidr_cmp a.prefix b.prefix) ≡ false
prefix_not_above a b h = by (cidr_cmp a.prefix b.prefix) h
  where
    by : (o : Ordering) → ordering_then o (ordering_then (direction_cmp a.direction b.direction) (nat_cmp a.neighbour b.neighbour)) ≡ Less → is_gt o ≡ false
    by Less h = refl
    by Equal h = refl
    by Greater h = absurd cc

all_not_above : (k : Key) (keys : List Key) → AllByRecursion (λ y. key_cmp k y ≡ Less) keys → NotAbove k.prefix (map (λ (key : Key). key.prefix) keys)
all_not_above k [] h = tt
all_not_above k (x ∷ keys) h = (prefix_not_above k x h.0, all_not_above k keys h.1)

keys_ascend : (keys : List Key) → IsStrictlySortedBy key_cmp keys → Ascend (map (λ (key : Key). key.prefix) keys)
unfolding IsStrictlySortedBy
keys_ascend [] h = tt
keys_ascend (k ∷ keys) h = (all_not_above k keys h.0, keys_ascend keys h.1)

pub others_stand : (rows : List Row) → AreAscending rows → others None (prefixes_in rows) ≡ standing rows
others_stand rows order =
    only_once (others None (prefixes_in rows)) (prefixes_in rows) (first_sorted (prefixes_in rows) (keys_ascend (keys_of rows) order)) (named_others None (prefixes_in rows))

-- ---- one row more

pub skipped : (last : Option Cidr) (p : Cidr) (ps : List Cidr) → is_last last p ≡ true → others last (p ∷ ps) ≡ others last ps
skipped last p ps h = ap (λ t. cond t (others last ps) (p ∷ others (Some p) ps)) h

pub taken : (last : Option Cidr) (p : Cidr) (ps : List Cidr) → is_last last p ≡ false → others last (p ∷ ps) ≡ p ∷ others (Some p) ps
taken last p ps h = ap (λ t. cond t (others last ps) (p ∷ others (Some p) ps)) h
