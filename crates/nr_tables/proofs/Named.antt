-- Rows with the blocks that they name.
use Rattle.std.proofs.Common.{◌≡◌, ◌==◌, ℕ, zero, suc, ◌+◌, ◌<◌, Bool, true, false, cond, ◌||◌, ◌&&◌, List, [], ◌∷◌, Option, Some, None, length, refl, ap, sym, subst, ◌∙◌, arith}
use Rattle.std.specs.Prelude.{is_some, map, nat_lt, option_map}
use Rattle.std.specs.BTreeMap.{insert_entry, is_at}
use Rattle.std.specs.declared.cmp.Ordering.{Ordering}
use Rattle.std.specs.List.Sorted.{IsStrictlySortedBy}
use Rattle.std.specs.Bool.{beq}
use Rattle.std.specs.List.{AllByRecursion, IsDistinct, list_any}
use Rattle.std.specs.Map.{keys_of, lookup, remove_entry, values_of}
use Rattle.std.specs.Set.{is_member}
use Rattle.std.specs.Cmp.{IsEquivalence}
use Rattle.std.specs.Str.{bytes_eq}
use Rattle.std.proofs.lemmas.Bool.Decides.{nat_tests}
use Rattle.std.proofs.lemmas.Bool.{eqb-true}
use Rattle.std.proofs.lemmas.Cmp.{nat_list_eq_equiv}
use Rattle.std.proofs.lemmas.Map.Made.{keys_of-map_values, length-from_keys, lookup-map_values}
use Rattle.nr_spec_bgp.specs.Attributes.{AttributeBlock}
use Rattle.nr_spec_routes.specs.Keys.{Key, AreAscending, key_cmp, route_in, standing}
use Rattle.nr_tables.specs.Others.{others, prefixes_of}
use Rattle.nr_tables.proofs.Numbers.{at_each, count_added, count_none, count_removed, count_renamed, count_swapped, times_found}
use Rattle.nr_tables.proofs.OthersOnce.{others_stand}
use Rattle.nr_tables.specs.Shared.{block_at, blocks_in, named_rows, number_at, same_block, times, unnamed, AreCounted, AreNamed}

-- ---- the same rows

pub renamed_rows : (old new : List AttributeBlock) (ns : List ℕ) (f : ℕ → ℕ) (rows : List (Key × ℕ)) → AreNamed ns rows → ((i : ℕ) → 0 < number_at ns i → block_at new (f i) ≡ block_at old i)
    → named_rows new (map (λ e. (e.0, f e.1)) rows) ≡ named_rows old rows
renamed_rows old new ns f [] all same = refl
renamed_rows old new ns f (e ∷ rows) all same = (λ i. (e.0, same e.1 all.0 i) ∷ renamed_rows old new ns f rows all.1 same i)

pub rows_stay : (old new : List AttributeBlock) (ns : List ℕ) (rows : List (Key × ℕ)) → AreNamed ns rows → ((i : ℕ) → 0 < number_at ns i → block_at new i ≡ block_at old i)
    → named_rows new rows ≡ named_rows old rows
rows_stay old new ns [] all same = refl
rows_stay old new ns (e ∷ rows) all same = (λ i. (e.0, same e.1 all.0 i) ∷ rows_stay old new ns rows all.1 same i)

pub named_removed : (blocks : List AttributeBlock) (test : Key → Bool) (rows : List (Key × ℕ)) → named_rows blocks (remove_entry test rows) ≡ remove_entry test (named_rows blocks rows)
named_removed blocks test [] = refl
named_removed blocks test (e ∷ rows) = by (test e.0) (named_removed blocks test rows)
  where
    by : (b : Bool) → named_rows blocks (remove_entry test rows) ≡ remove_entry test (named_rows blocks rows)
        → named_rows blocks (cond b rows (e ∷ remove_entry test rows)) ≡ cond b (named_rows blocks rows) ((e.0, block_at blocks e.1) ∷ remove_entry test (named_rows blocks rows))
    by true ih = refl
    by false ih = ap (λ l. (e.0, block_at blocks e.1) ∷ l) ih

-- ---- what is at a key

pub route_named : (blocks : List AttributeBlock) (rows : List (Key × ℕ)) (q : Key) → route_in (named_rows blocks rows) q ≡ option_map (block_at blocks) (lookup (is_at (key_cmp q)) rows)
route_named blocks rows q = lookup-map_values (block_at blocks) (is_at (key_cmp q)) rows

pub some_named : (blocks : List AttributeBlock) (o : Option ℕ) → is_some (option_map (block_at blocks) o) ≡ is_some o
some_named blocks (Some place) = refl
some_named blocks None = refl

pub row_there : (blocks : List AttributeBlock) (rows : List (Key × ℕ)) (q : Key) → is_some (lookup (is_at (key_cmp q)) rows) ≡ is_some (route_in (named_rows blocks rows) q)
row_there blocks rows q = sym (ap is_some (route_named blocks rows q) ∙ some_named blocks (lookup (is_at (key_cmp q)) rows))

-- a key gets a place, or none
pub route_changed : (blocks : List AttributeBlock) (rows new : List (Key × ℕ)) (q : Key) (b : Bool) (o : Option ℕ) → lookup (is_at (key_cmp q)) new ≡ cond b o (lookup (is_at (key_cmp q)) rows)
    → route_in (named_rows blocks new) q ≡ cond b (option_map (block_at blocks) o) (route_in (named_rows blocks rows) q)
route_changed blocks rows new q b o h = route_named blocks new q ∙ ap (option_map (block_at blocks)) h ∙ by b
  where
    by : (b : Bool) → option_map (block_at blocks) (cond b o (lookup (is_at (key_cmp q)) rows)) ≡ cond b (option_map (block_at blocks) o) (route_in (named_rows blocks rows) q)
    by true = refl
    by false = sym (route_named blocks rows q)

-- a row names a place that rows name
pub named_by : (test : Key → Bool) (ns : List ℕ) (rows : List (Key × ℕ)) (place : ℕ) → AreCounted ns rows → lookup test rows ≡ Some place → 0 < number_at ns place
named_by test ns rows place counted h = subst (λ n. 0 < n) (counted place) (times_found test rows place h)

pub all_named : (ns : List ℕ) (rows : List (Key × ℕ)) → AreCounted ns rows → AreNamed ns rows
all_named ns rows counted = at_each (λ i. 0 < number_at ns i) rows (λ i h. subst (λ n. 0 < n) (counted i) h)

pub left_counted : (test : Key → Bool) (ns new : List ℕ) (rows left : List (Key × ℕ)) (o : ℕ) → AreCounted ns rows → lookup test rows ≡ Some o → left ≡ remove_entry test rows
    → ((i : ℕ) → number_at new i + cond (i == o) 1 0 ≡ number_at ns i) → AreCounted new left
left_counted test ns new rows left o counted h is numbers i =
    let gone = count_removed test rows o i h in
    let old = counted i in
    let now = numbers i in
    let same : times i left ≡ times i (remove_entry test rows) = ap (times i) is in
    less (cond (i == o) 1 0) (times i (remove_entry test rows)) (times i rows) (times i left) (number_at ns i) (number_at new i) gone old now same
  where
    less : (a b c d e f : ℕ) → a + b ≡ c → c ≡ e → f + a ≡ e → d ≡ b → d ≡ f
    less a b c d e f g o n s = omega (arith, g, o, n, s)

pub swapped_counted : (cmp : Key → Key → Ordering) (k : Key) (v : ℕ) (ns left new : List ℕ) (rows put : List (Key × ℕ)) (o : ℕ) → AreCounted ns rows → put ≡ insert_entry cmp rows k v → length put ≡ length rows + 0
    → lookup (is_at (cmp k)) rows ≡ Some o → ((i : ℕ) → number_at left i + cond (i == o) 1 0 ≡ number_at ns i) → ((i : ℕ) → number_at new i ≡ number_at left i + cond (i == v) 1 0) → AreCounted new put
swapped_counted cmp k v ns left new rows put o counted is size h leaves names i =
    let same : length (insert_entry cmp rows k v) ≡ length rows = sym (ap length is) ∙ size ∙ none (length rows) in
    all (cond (i == o) 1 0) (cond (i == v) 1 0) (times i (insert_entry cmp rows k v)) (times i rows) (times i put) (number_at ns i) (number_at left i) (number_at new i)
    (count_swapped cmp k v rows o i same h) (counted i) (ap (times i) is) (leaves i) (names i)
  where
    none : (n : ℕ) → n + 0 ≡ n
    none n = omega arith

    all : (a b c d e n l w : ℕ) → a + c ≡ b + d → d ≡ n → e ≡ c → l + a ≡ n → w ≡ l + b → e ≡ w
    all a b c d e n l w g o s x y = omega (arith, g, o, s, x, y)

pub new_counted : (cmp : Key → Key → Ordering) (k : Key) (v : ℕ) (ns new : List ℕ) (rows put : List (Key × ℕ)) → AreCounted ns rows → put ≡ insert_entry cmp rows k v → length put ≡ length rows + 1
    → ((i : ℕ) → number_at new i ≡ number_at ns i + cond (i == v) 1 0) → AreCounted new put
new_counted cmp k v ns new rows put counted is size names i =
    let more : length (insert_entry cmp rows k v) ≡ length rows + 1 = sym (ap length is) ∙ size in
    all (cond (i == v) 1 0) (times i (insert_entry cmp rows k v)) (times i rows) (times i put) (number_at ns i) (number_at new i)
    (count_added cmp k v rows i more) (counted i) (ap (times i) is) (names i)
  where
    all : (b c d e n w : ℕ) → c ≡ b + d → d ≡ n → e ≡ c → w ≡ n + b → e ≡ w
    all b c d e n w g o s y = omega (arith, g, o, s, y)

-- ---- the keys

pub keys_named : (blocks : List AttributeBlock) (rows : List (Key × ℕ)) → keys_of (named_rows blocks rows) ≡ keys_of rows
keys_named blocks rows = keys_of-map_values (block_at blocks) rows

pub named_ascend : (blocks : List AttributeBlock) (rows : List (Key × ℕ)) → IsStrictlySortedBy key_cmp (keys_of rows) → AreAscending (named_rows blocks rows)
named_ascend blocks rows h = subst (IsStrictlySortedBy key_cmp) (sym (keys_named blocks rows)) h

pub prefixes_named : (blocks : List AttributeBlock) (rows : List (Key × ℕ)) → IsStrictlySortedBy key_cmp (keys_of rows) → others None (prefixes_of rows) ≡ standing (named_rows blocks rows)
prefixes_named blocks rows h =
    ap (λ (keys : List Key). others None (map (λ (key : Key). key.prefix) keys)) (sym (keys_named blocks rows)) ∙ others_stand (named_rows blocks rows) (named_ascend blocks rows h)

-- ---- how many different blocks

bools_equiv : IsEquivalence beq
bools_equiv = record { refl = own; symm = turned; congr = follows }
  where
    own : (b : Bool) → beq b b ≡ true
    own true = refl
    own false = refl

    turned : (a b : Bool) → beq a b ≡ beq b a
    turned true true = refl
    turned true false = refl
    turned false true = refl
    turned false false = refl

    follows : (a b c : Bool) → beq a b ≡ true → beq a c ≡ beq b c
    follows true true c h = refl
    follows true false c h = absurd cc
    follows false true c h = absurd cc
    follows false false c h = refl

both : (a b : Bool) → (a && b) ≡ true → (a ≡ true) × (b ≡ true)
both true b h = (refl, h)
both false b h = absurd cc

pub same_block_equiv : IsEquivalence same_block
same_block_equiv = record {
  refl = λ a. (λ i. bools_equiv.refl a.as4 i && nat_list_eq_equiv.refl a.block i);
  symm = λ a b. (λ i. bools_equiv.symm a.as4 b.as4 i && nat_list_eq_equiv.symm a.block b.block i);
  congr = λ a b c h. let p = both (beq a.as4 b.as4) (bytes_eq a.block b.block) h in (λ i. bools_equiv.congr a.as4 b.as4 c.as4 p.0 i && nat_list_eq_equiv.congr a.block b.block c.block p.1 i);
}

-- the blocks that some row names
abbrev pub in_use : List AttributeBlock → List ℕ → List AttributeBlock
in_use [] ns = []
in_use (b ∷ blocks) [] = []
in_use (b ∷ blocks) (n ∷ ns) = cond (nat_lt 0 n) (b ∷ in_use blocks ns) (in_use blocks ns)

use_count : (blocks : List AttributeBlock) (ns : List ℕ) → length ns ≡ length blocks → length (in_use blocks ns) + unnamed ns ≡ length ns
use_count [] [] h = refl
use_count [] (n ∷ ns) h = absurd (omega (arith, h))
use_count (b ∷ blocks) [] h = absurd (omega (arith, h))
use_count (b ∷ blocks) (n ∷ ns) h = by (nat_lt 0 n) (n == 0) (one n) (use_count blocks ns (omega (arith, h)))
  where
    one : (n : ℕ) → cond (nat_lt 0 n) 1 0 + cond (n == 0) 1 0 ≡ 1
    one n = grind (arith, nat_tests)

    by : (s t : Bool) → cond s 1 0 + cond t 1 0 ≡ 1 → length (in_use blocks ns) + unnamed ns ≡ length ns
        → length (cond s (b ∷ in_use blocks ns) (in_use blocks ns)) + (cond t 1 0 + unnamed ns) ≡ suc (length ns)
    by true true o ih = absurd (omega (arith, o))
    by true false o ih = omega (arith, ih)
    by false true o ih = omega (arith, ih)
    by false false o ih = absurd (omega (arith, o))

apart_in_use : (a : AttributeBlock) (blocks : List AttributeBlock) (ns : List ℕ) → AllByRecursion (λ b. same_block a b ≡ false) blocks → AllByRecursion (λ b. same_block a b ≡ false) (in_use blocks ns)
apart_in_use a [] ns h = tt
apart_in_use a (b ∷ blocks) [] h = tt
apart_in_use a (b ∷ blocks) (n ∷ ns) h = by (nat_lt 0 n) (apart_in_use a blocks ns h.1)
  where
    by : (s : Bool) → AllByRecursion (λ b. same_block a b ≡ false) (in_use blocks ns) → AllByRecursion (λ b. same_block a b ≡ false) (cond s (b ∷ in_use blocks ns) (in_use blocks ns))
    by true ih = (h.0, ih)
    by false ih = ih

distinct_in_use : (blocks : List AttributeBlock) (ns : List ℕ) → IsDistinct same_block blocks → IsDistinct same_block (in_use blocks ns)
unfolding IsDistinct
distinct_in_use [] ns h = tt
distinct_in_use (b ∷ blocks) [] h = tt
distinct_in_use (b ∷ blocks) (n ∷ ns) h = by (nat_lt 0 n) (distinct_in_use blocks ns h.1)
  where
    by : (s : Bool) → IsDistinct same_block (in_use blocks ns) → IsDistinct same_block (cond s (b ∷ in_use blocks ns) (in_use blocks ns))
    by true ih = (apart_in_use b blocks ns h.0, ih)
    by false ih = ih

-- which blocks they are
used_at : (q : AttributeBlock) (blocks : List AttributeBlock) (ns : List ℕ) → is_member same_block (in_use blocks ns) q ≡ true
    → (i : ℕ) × (0 < number_at ns i) × (same_block q (block_at blocks i) ≡ true)
used_at q [] ns h = absurd cc
used_at q (b ∷ blocks) [] h = absurd cc
used_at q (b ∷ blocks) (n ∷ ns) h = by (nat_lt 0 n) refl (used_at q blocks ns) h
  where
    later : ((i : ℕ) × (0 < number_at ns i) × (same_block q (block_at blocks i) ≡ true)) → (i : ℕ) × (0 < number_at (n ∷ ns) i) × (same_block q (block_at (b ∷ blocks) i) ≡ true)
    later x = (suc x.0, x.1, x.2)

    by : (s : Bool) → nat_lt 0 n ≡ s
        → (list_any (same_block q) (in_use blocks ns) ≡ true → (i : ℕ) × (0 < number_at ns i) × (same_block q (block_at blocks i) ≡ true))
        → list_any (same_block q) (cond s (b ∷ in_use blocks ns) (in_use blocks ns)) ≡ true
        → (i : ℕ) × (0 < number_at (n ∷ ns) i) × (same_block q (block_at (b ∷ blocks) i) ≡ true)
    by true is rest h = here (same_block q b) refl h
      where
        here : (t : Bool) → same_block q b ≡ t → (t || list_any (same_block q) (in_use blocks ns)) ≡ true → (i : ℕ) × (0 < number_at (n ∷ ns) i) × (same_block q (block_at (b ∷ blocks) i) ≡ true)
        here true e h = (0, grind (arith, nat_tests), e)
        here false e h = later (rest h)
    by false is rest h = later (rest h)

used_here : (q : AttributeBlock) (blocks : List AttributeBlock) (ns : List ℕ) (i : ℕ) → length ns ≡ length blocks → 0 < number_at ns i → same_block q (block_at blocks i) ≡ true
    → is_member same_block (in_use blocks ns) q ≡ true
used_here q [] [] i same h e = absurd (omega (arith, h))
used_here q [] (n ∷ ns) i same h e = absurd (omega (arith, same))
used_here q (b ∷ blocks) [] i same h e = absurd (omega (arith, same))
used_here q (b ∷ blocks) (n ∷ ns) zero same h e = ap (λ s. list_any (same_block q) (cond s (b ∷ in_use blocks ns) (in_use blocks ns))) (positive n h) ∙ ap (λ t. t || list_any (same_block q) (in_use blocks ns)) e
  where
    positive : (n : ℕ) → 0 < n → nat_lt 0 n ≡ true
    positive n h = grind (arith, nat_tests)
used_here q (b ∷ blocks) (n ∷ ns) (suc i) same h e = by (nat_lt 0 n) (used_here q blocks ns i (omega (arith, same)) h e)
  where
    by : (s : Bool) → list_any (same_block q) (in_use blocks ns) ≡ true → list_any (same_block q) (cond s (b ∷ in_use blocks ns) (in_use blocks ns)) ≡ true
    by true ih = last (same_block q b) ih
      where
        last : (t : Bool) {u : Bool} → u ≡ true → (t || u) ≡ true
        last true h = refl
        last false h = h
    by false ih = ih

named_at : (q : AttributeBlock) (blocks : List AttributeBlock) (rows : List (Key × ℕ)) → is_member same_block (values_of (named_rows blocks rows)) q ≡ true
    → (i : ℕ) × (0 < times i rows) × (same_block q (block_at blocks i) ≡ true)
named_at q blocks [] h = absurd cc
named_at q blocks (e ∷ rows) h = by (same_block q (block_at blocks e.1)) refl (named_at q blocks rows) h
  where
    own : (n m : ℕ) → 0 < cond (n == n) 1 0 + m
    own n m = grind (arith, nat_tests)

    more : (a b : ℕ) → 0 < b → 0 < a + b
    more a b h = omega (arith, h)

    by : (t : Bool) → same_block q (block_at blocks e.1) ≡ t
        → (list_any (same_block q) (values_of (named_rows blocks rows)) ≡ true → (i : ℕ) × (0 < times i rows) × (same_block q (block_at blocks i) ≡ true))
        → (t || list_any (same_block q) (values_of (named_rows blocks rows))) ≡ true
        → (i : ℕ) × (0 < times i (e ∷ rows)) × (same_block q (block_at blocks i) ≡ true)
    by true is rest h = (e.1, own e.1 (times e.1 rows), is)
    by false is rest h = let x = rest h in (x.0, more (cond (x.0 == e.1) 1 0) (times x.0 rows) x.1, x.2)

named_here : (q : AttributeBlock) (blocks : List AttributeBlock) (rows : List (Key × ℕ)) (i : ℕ) → 0 < times i rows → same_block q (block_at blocks i) ≡ true
    → is_member same_block (values_of (named_rows blocks rows)) q ≡ true
named_here q blocks [] i h is = absurd (omega (arith, h))
named_here q blocks (e ∷ rows) i h is = by (i == e.1) refl (λ h. named_here q blocks rows i h is) h
  where
    last : (t u : Bool) → u ≡ true → (t || u) ≡ true
    last true u h = refl
    last false u h = h

    rest-of : (n : ℕ) → 0 < 0 + n → 0 < n
    rest-of n h = omega (arith, h)

    by : (b : Bool) → (i == e.1) ≡ b → (0 < times i rows → list_any (same_block q) (values_of (named_rows blocks rows)) ≡ true) → 0 < cond b 1 0 + times i rows
        → (same_block q (block_at blocks e.1) || list_any (same_block q) (values_of (named_rows blocks rows))) ≡ true
    by true e-is rest h = ap (λ t. t || list_any (same_block q) (values_of (named_rows blocks rows))) (ap (λ n. same_block q (block_at blocks n)) (sym (eqb-true i e.1 e-is)) ∙ is)
    by false e-is rest h = last (same_block q (block_at blocks e.1)) (list_any (same_block q) (values_of (named_rows blocks rows))) (rest (rest-of (times i rows) h))

same_members : (blocks : List AttributeBlock) (ns : List ℕ) (rows : List (Key × ℕ)) → length ns ≡ length blocks → AreCounted ns rows → (q : AttributeBlock)
    → is_member same_block (in_use blocks ns) q ≡ is_member same_block (values_of (named_rows blocks rows)) q
same_members blocks ns rows same counted q = by (is_member same_block (in_use blocks ns) q) (is_member same_block (values_of (named_rows blocks rows)) q) refl refl
  where
    never : (t : Bool) → t ≡ true → t ≡ false → ⊥
    never true e h = absurd cc
    never false e h = absurd cc

    by : (s t : Bool) → is_member same_block (in_use blocks ns) q ≡ s → is_member same_block (values_of (named_rows blocks rows)) q ≡ t → s ≡ t
    by true true e h = refl
    by false false e h = refl
    by true false e h =
        let x = used_at q blocks ns e in
        absurd (never (is_member same_block (values_of (named_rows blocks rows)) q) (named_here q blocks rows x.0 (subst (λ n. 0 < n) (sym (counted x.0)) x.1) x.2) h)
    by false true e h =
        let x = named_at q blocks rows h in
        absurd (never (is_member same_block (in_use blocks ns) q) (used_here q blocks ns x.0 same (subst (λ n. 0 < n) (counted x.0) x.1) x.2) e)

pub blocks_counted : (blocks : List AttributeBlock) (ns : List ℕ) (rows : List (Key × ℕ)) (n : ℕ) → length ns ≡ length blocks → IsDistinct same_block blocks → AreCounted ns rows → n + unnamed ns ≡ length ns
    → n ≡ blocks_in (named_rows blocks rows)
blocks_counted blocks ns rows n same distinct counted is =
    let here = use_count blocks ns same in
    let equal : n ≡ length (in_use blocks ns) = omega (arith, here, is) in
    equal ∙ length-from_keys same_block_equiv (in_use blocks ns) (values_of (named_rows blocks rows)) (distinct_in_use blocks ns distinct) (same_members blocks ns rows same counted)

-- ---- other names

pub renamed_counted : (ns new : List ℕ) (rows : List (Key × ℕ)) (f : ℕ → ℕ) → AreCounted ns rows
    → ((i : ℕ) → 0 < number_at ns i → number_at new (f i) ≡ number_at ns i)
    → ((i j : ℕ) → 0 < number_at ns i → 0 < number_at ns j → f i ≡ f j → i ≡ j)
    → ((k : ℕ) → 0 < number_at new k → (i : ℕ) × (0 < number_at ns i) × (f i ≡ k))
    → AreCounted new (map (λ e. (e.0, f e.1)) rows)
renamed_counted ns new rows f counted same apart all k = by (nat_lt 0 (number_at new k)) refl
  where
    named : AreNamed ns rows
    named = all_named ns rows counted

    each : {P Q : ℕ → Type 0} → ((i : ℕ) → P i → Q i) → (rows : List (Key × ℕ)) → AllByRecursion (λ e. P e.1) rows → AllByRecursion (λ e. Q e.1) rows
    each f [] all = tt
    each f (e ∷ rows) all = (f e.1 all.0, each f rows all.1)

    some : (n : ℕ) → nat_lt 0 n ≡ true → 0 < n
    some n h = grind (arith, nat_tests)

    none : (n : ℕ) → nat_lt 0 n ≡ false → n ≡ 0
    none n h = grind (arith, nat_tests)

    apart-test : (a b : ℕ) → (a ≡ b → ⊥) → (a == b) ≡ false
    apart-test a b h = by (a == b) refl
      where
        by : (t : Bool) → (a == b) ≡ t → (a == b) ≡ false
        by true e = absurd (h (eqb-true a b e))
        by false e = e

    own : (n : ℕ) → (n == n) ≡ true
    own n = grind (arith, nat_tests)

    tests : (a b c d : ℕ) → (a ≡ b → c ≡ d) → (c ≡ d → a ≡ b) → (a == b) ≡ (c == d)
    tests a b c d f g = by (a == b) (c == d) refl refl
      where
        by : (s t : Bool) → (a == b) ≡ s → (c == d) ≡ t → s ≡ t
        by true true e h = refl
        by false false e h = refl
        by true false e h = absurd (let t = sym h ∙ ap (λ n. n == d) (f (eqb-true a b e)) ∙ own d in cc)
        by false true e h = absurd (let t = sym e ∙ ap (λ n. n == b) (g (eqb-true c d h)) ∙ own b in cc)

    by : (b : Bool) → nat_lt 0 (number_at new k) ≡ b → times k (map (λ e. (e.0, f e.1)) rows) ≡ number_at new k
    by true h =
        let x = all k (some (number_at new k) h) in
        count_renamed f k x.0 rows (each (λ i used. tests k (f i) x.0 i (λ e. apart x.0 i x.1 used (x.2 ∙ e)) (λ e. sym x.2 ∙ ap f e)) rows named)
        ∙ counted x.0 ∙ sym (same x.0 x.1) ∙ ap (number_at new) x.2
    by false h =
        count_none f k rows (each (λ i used. apart-test k (f i) (λ e. zero-some (number_at ns i) used (sym (same i used) ∙ ap (number_at new) (sym e) ∙ none (number_at new k) h))) rows named)
        ∙ sym (none (number_at new k) h)
      where
        zero-some : (n : ℕ) → 0 < n → n ≡ 0 → ⊥
        zero-some n h e = omega (arith, h, e)
