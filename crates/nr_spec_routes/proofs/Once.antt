-- Prefixes in order and each once.
use Rattle.std.proofs.Common.{◌≡◌, ◌==◌, ◌≤◌, suc, Bool, true, false, ◌&&◌, List, [], ◌∷◌, ◌++◌, length, refl, ap, sym, ◌∙◌, arith}
use Rattle.std.specs.Prelude.{◌||◌, map}
use Rattle.std.specs.List.{list_any, AllByRecursion}
use Rattle.std.specs.List.Sorted.{IsStrictlySortedBy}
use Rattle.std.specs.BTreeMap.{is_at}
use Rattle.std.specs.BTreeSet.{BTreeSet, insert_key}
use Rattle.std.proofs.lemmas.Map.Lookups.{btree_set_from_contains}
use Rattle.std.specs.Ordering.{is_eq, match_ordering, ordering_reverse}
use Rattle.std.specs.declared.cmp.Ordering.{Ordering}
use Rattle.std.specs.declared.cmp.Ordering.TheVariants.{Less, Equal, Greater}
use Rattle.std.proofs.lemmas.Bool.Decides.{nat_tests}
use Rattle.std.proofs.lemmas.List.Folds.{list_any-append}
use Rattle.std.specs.Map.{keys_of}
use Rattle.nr_spec_log.specs.Chain.{LogEntry}
use Rattle.nr_spec_bgp.specs.Prefixes.{Cidr}
use Rattle.nr_spec_routes.specs.Keys.{Key, Row, cidr_cmp, each_once, is_named, prefixes_in, standing, stands_in}
use Rattle.nr_spec_routes.specs.Effects.{effect_of}
use Rattle.nr_spec_routes.specs.Touched.{names, touched_after, touched_by}
use Rattle.nr_spec_routes.specs.Rows.{rows_after}
use Rattle.nr_spec_routes.proofs.KeyOrder.{cidrs_total, exact_cidrs}

again : (a b : Bool) → (a || b) ≡ (a || (a || b))
again true b = refl
again false b = refl

swap : (a b c : Bool) → (a || (b || c)) ≡ (b || (a || c))
swap true true c = refl
swap true false c = refl
swap false b c = refl

-- one prefix more
pub named_more : (ps : List Cidr) (k p : Cidr) → is_named (insert_key cidr_cmp ps k) p ≡ (is_eq (cidr_cmp k p) || is_named ps p)
named_more [] k p = refl
named_more (x ∷ ps) k p = by (cidr_cmp k x) refl (named_more ps k p)
  where
    by : (o : Ordering) → cidr_cmp k x ≡ o → is_named (insert_key cidr_cmp ps k) p ≡ (is_eq (cidr_cmp k p) || is_named ps p)
        → is_named (match_ordering o (k ∷ x ∷ ps) (x ∷ ps) (x ∷ insert_key cidr_cmp ps k)) p ≡ (is_eq (cidr_cmp k p) || is_named (x ∷ ps) p)
    by Less e ih = refl
    by Equal e ih = again (is_eq (cidr_cmp x p)) (is_named ps p) ∙ ap (λ y. is_eq (cidr_cmp y p) || is_named (x ∷ ps) p) (sym (exact_cidrs k x e))
    by Greater e ih = ap (λ t. is_eq (cidr_cmp x p) || t) ih ∙ swap (is_eq (cidr_cmp x p)) (is_eq (cidr_cmp k p)) (is_named ps p)

pub named_once : (ps : List Cidr) (p : Cidr) → is_named (each_once ps) p ≡ is_named ps p
named_once [] p = refl
named_once (x ∷ ps) p = named_more (each_once ps) x p ∙ ap (λ t. is_eq (cidr_cmp x p) || t) (named_once ps p)

pub named_append : (ps qs : List Cidr) (p : Cidr) → is_named (ps ++ qs) p ≡ (is_named ps p || is_named qs p)
named_append ps qs p = list_any-append (λ c. is_eq (cidr_cmp c p)) ps qs

length_more : (ps : List Cidr) (k : Cidr) → length (insert_key cidr_cmp ps k) ≤ suc (length ps)
length_more [] k = omega arith
length_more (x ∷ ps) k = by (cidr_cmp k x) (length_more ps k)
  where
    by : (o : Ordering) → length (insert_key cidr_cmp ps k) ≤ suc (length ps) → length (match_ordering o (k ∷ x ∷ ps) (x ∷ ps) (x ∷ insert_key cidr_cmp ps k)) ≤ suc (length (x ∷ ps))
    by Less ih = omega arith
    by Equal ih = omega arith
    by Greater ih = omega arith

pub length_once : (ps : List Cidr) → length (each_once ps) ≤ length ps
length_once [] = omega arith
length_once (x ∷ ps) = let more = length_more (each_once ps) x in let rest = length_once ps in omega arith

-- ---- in order

below_more : (x : Cidr) (ks : List Cidr) (k : Cidr) → AllByRecursion (λ y. cidr_cmp x y ≡ Less) ks → cidr_cmp x k ≡ Less → AllByRecursion (λ y. cidr_cmp x y ≡ Less) (insert_key cidr_cmp ks k)
below_more x [] k h l = (l, tt)
below_more x (y ∷ ks) k h l = by (cidr_cmp k y) (below_more x ks k h.1 l)
  where
    by : (o : Ordering) → AllByRecursion (λ y. cidr_cmp x y ≡ Less) (insert_key cidr_cmp ks k) → AllByRecursion (λ y. cidr_cmp x y ≡ Less) (match_ordering o (k ∷ y ∷ ks) (y ∷ ks) (y ∷ insert_key cidr_cmp ks k))
    by Less ih = (l, h)
    by Equal ih = h
    by Greater ih = (h.0, ih)

below_all : (k x : Cidr) (ks : List Cidr) → cidr_cmp k x ≡ Less → AllByRecursion (λ y. cidr_cmp x y ≡ Less) ks → AllByRecursion (λ y. cidr_cmp k y ≡ Less) ks
below_all k x [] l h = tt
below_all k x (y ∷ ks) l h = (cidrs_total.trans k x y l h.0, below_all k x ks l h.1)

sorted_more : (ks : List Cidr) (k : Cidr) → IsStrictlySortedBy cidr_cmp ks → IsStrictlySortedBy cidr_cmp (insert_key cidr_cmp ks k)
unfolding IsStrictlySortedBy
sorted_more [] k h = (tt, tt)
sorted_more (x ∷ ks) k h = by (cidr_cmp k x) refl (sorted_more ks k h.1)
  where
    by : (o : Ordering) → cidr_cmp k x ≡ o → IsStrictlySortedBy cidr_cmp (insert_key cidr_cmp ks k) → IsStrictlySortedBy cidr_cmp (match_ordering o (k ∷ x ∷ ks) (x ∷ ks) (x ∷ insert_key cidr_cmp ks k))
    by Less e ih = ((e, below_all k x ks e h.0), h)
    by Equal e ih = h
    by Greater e ih = (below_more x ks k h.0 (cidrs_total.antisymm x k ∙ ap ordering_reverse e), ih)

pub sorted_once : (ps : List Cidr) → IsStrictlySortedBy cidr_cmp (each_once ps)
unfolding IsStrictlySortedBy
sorted_once [] = tt
sorted_once (p ∷ ps) = sorted_more (each_once ps) p (sorted_once ps)

flipped : (p q : Cidr) → is_eq (cidr_cmp p q) ≡ is_eq (cidr_cmp q p)
flipped p q = grind (arith, nat_tests)

pub has_named : (ps : List Cidr) (p : Cidr) → list_any (is_at (cidr_cmp p)) ps ≡ is_named ps p
has_named [] p = refl
has_named (q ∷ ps) p = ap (λ t. t || list_any (is_at (cidr_cmp p)) ps) (flipped p q) ∙ ap (λ t. is_eq (cidr_cmp q p) || t) (has_named ps p)

-- no other prefixes in order have the same among them
pub only_once : (ps qs : List Cidr) → IsStrictlySortedBy cidr_cmp ps → ((p : Cidr) → is_named ps p ≡ is_named qs p) → ps ≡ each_once qs
only_once ps qs order same =
    let s : BTreeSet Cidr = record { keys = ps } in
    let t : BTreeSet Cidr = record { keys = each_once qs } in
    btree_set_from_contains cidrs_total s t order (sorted_once qs) (λ (p : Cidr). has_named ps p ∙ same p ∙ sym (named_once qs p) ∙ sym (has_named (each_once qs) p)) exact_cidrs

-- ---- what an entry touches, and what stands

pub touched_named : (base : List Row) (past : List LogEntry) (e : LogEntry) (p : Cidr)
    → is_named (touched_after base past e) p ≡ is_named (names (rows_after base past) (effect_of e)) p
unfolding touched_by
touched_named base past e p = named_once (names (rows_after base past) (effect_of e)) p

pub touched_ascend : (base : List Row) (past : List LogEntry) (e : LogEntry) → IsStrictlySortedBy cidr_cmp (touched_after base past e)
unfolding touched_by
touched_ascend base past e = sorted_once (names (rows_after base past) (effect_of e))

one_stands : (k : Key) (p : Cidr) → is_eq (cidr_cmp k.prefix p) ≡ (k.prefix.addr == p.addr && k.prefix.len == p.len)
one_stands k p = grind (arith, nat_tests)

named_stands : (keys : List Key) (p : Cidr)
    → is_named (map (λ (key : Key). key.prefix) keys) p ≡ list_any (λ (key : Key). key.prefix.addr == p.addr && key.prefix.len == p.len) keys
named_stands [] p = refl
named_stands (k ∷ keys) p = ap (λ t. t || is_named (map (λ (key : Key). key.prefix) keys) p) (one_stands k p) ∙ ap (λ t. (k.prefix.addr == p.addr && k.prefix.len == p.len) || t) (named_stands keys p)

pub standing_stands : (rows : List Row) (p : Cidr) → is_named (standing rows) p ≡ stands_in rows p
standing_stands rows p = named_once (prefixes_in rows) p ∙ named_stands (keys_of rows) p
