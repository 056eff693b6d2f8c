-- Blocks in their places.
use Rattle.std.proofs.Common.{◌≡◌, ◌==◌, ℕ, zero, suc, ◌+◌, ◌-◌, ◌<◌, ◌≤◌, Bool, true, false, cond, ◌&&◌, List, [], ◌∷◌, ◌++◌, Option, Some, None, length, refl, ap, sym, subst, ◌∙◌, arith}
use Rattle.std.specs.Prelude.{filter, get_or, map, nat_lt, position, slice_get, is_some}
use Rattle.std.specs.List.{AllByRecursion, IsDistinct}
use Rattle.std.specs.Map.{keys_of, values_of}
use Rattle.std.specs.Bool.{beq}
use Rattle.std.specs.Str.{bytes_eq}
use Rattle.std.proofs.lemmas.Bool.{eqb-true}
use Rattle.std.proofs.lemmas.Bool.Decides.{nat_tests}
use Rattle.std.proofs.lemmas.List.{get_or-map}
use Rattle.std.proofs.lemmas.List.Quantifiers.{position-Some}
use Rattle.nr_spec_bgp.specs.Attributes.{AttributeBlock}
use Rattle.nr_attrs.specs.Reading.{list_in}
use Rattle.nr_tables.specs.declared.block.Block.{Block}
use Rattle.nr_tables.specs.Stored.{IsStored}
use Rattle.nr_tables.specs.Shared.{block_at, kept, no_block, number_at, same_block, unnamed, renamed, IsPool, Pool}
use Rattle.nr_tables.proofs.Numbers.{name_at, name_from, names_apart, none_unnamed, number_more, unnamed_more, unnamed_most, within}

abbrev Entries : Type 0
Entries = List (Block × ℕ)

-- the blocks of entries
abbrev pub blocks_of : Entries → List AttributeBlock
blocks_of es = map kept (keys_of es)

pub blocks_count : (es : Entries) → length (blocks_of es) ≡ length es
blocks_count [] = refl
blocks_count (e ∷ es) = ap suc (blocks_count es)

pub numbers_count : (es : Entries) → length (values_of es) ≡ length es
numbers_count [] = refl
numbers_count (e ∷ es) = ap suc (numbers_count es)

pub unused_most : (es : Entries) (u : ℕ) → u ≡ unnamed (values_of es) → u ≤ length es
unused_most es u h = let most = unnamed_most (values_of es) in let same = numbers_count es in omega (arith, most, same, h)

-- ---- a block at a place

pub block_there : (es : Entries) (i : ℕ) (b : Block) (n : ℕ) → slice_get es i ≡ Some (b, n) → block_at (blocks_of es) i ≡ kept b
block_there [] i b n h = absurd cc
block_there (e ∷ es) zero b n h = ap kept (first h)
  where
    first : Some e ≡ Some (b, n) → e.0 ≡ b
    first h = ap of h
      where
        of : Option (Block × ℕ) → Block
        of (Some x) = x.0
        of None = b
block_there (e ∷ es) (suc i) b n h = block_there es i b n h

pub stored_there : (es : Entries) (i : ℕ) (b : Block) (n : ℕ) → AllByRecursion (λ a. IsStored a.as4 a.block) (blocks_of es) → slice_get es i ≡ Some (b, n) → IsStored b.as4 b.bytes.items
stored_there [] i b n all h = absurd cc
stored_there (e ∷ es) zero b n all h = subst (λ (x : Block). IsStored x.as4 x.bytes.items) (first h) all.0
  where
    first : Some e ≡ Some (b, n) → e.0 ≡ b
    first h = ap of h
      where
        of : Option (Block × ℕ) → Block
        of (Some x) = x.0
        of None = b
stored_there (e ∷ es) (suc i) b n all h = stored_there es i b n all.1 h

both : (a b : Bool) → (a && b) ≡ true → (a ≡ true) × (b ≡ true)
both true b h = (refl, h)
both false b h = absurd cc

bools_same : (a b : Bool) → beq a b ≡ true → a ≡ b
bools_same true true h = refl
bools_same true false h = absurd cc
bools_same false true h = absurd cc
bools_same false false h = refl

bytes_same : (a b : List ℕ) → bytes_eq a b ≡ true → a ≡ b
bytes_same [] [] h = refl
bytes_same [] (y ∷ b) h = absurd cc
bytes_same (x ∷ a) [] h = absurd cc
bytes_same (x ∷ a) (y ∷ b) h = let p = both (x == y) (bytes_eq a b) h in (λ i. number x y p.0 i ∷ bytes_same a b p.1 i)
  where
    number : (x y : ℕ) → (x == y) ≡ true → x ≡ y
    number x y h = grind (arith, nat_tests)

pub same_kept : (a b : Block) → same_block (kept a) (kept b) ≡ true → kept b ≡ kept a
same_kept a b h =
    let p = both (beq a.as4 b.as4) (bytes_eq a.bytes.items b.bytes.items) h in
    let as4 = sym (bools_same a.as4 b.as4 p.0) in
    let bytes = sym (bytes_same a.bytes.items b.bytes.items p.1) in
    (λ i. record { block = bytes i; as4 = as4 i; list = list_in (as4 i) (bytes i) })

pub found : (b : Block) (a : AttributeBlock) (es : Entries) (i : ℕ) → kept b ≡ a → position (λ k. same_block (kept b) (kept k)) (keys_of es) ≡ Some i
    → (i < length (blocks_of es)) × (block_at (blocks_of es) i ≡ a)
found b a es i is h =
    let p = position-Some (λ k. same_block (kept b) (kept k)) (keys_of es) i b h in
    let size : length (keys_of es) ≡ length (blocks_of es) = mapped (keys_of es) in
    (subst (λ n. i < n) size p.0, get_or-map kept (keys_of es) i b no_block p.0 ∙ same_kept b (get_or (keys_of es) i b) p.1 ∙ is)
  where
    mapped : (ks : List Block) → length ks ≡ length (map kept ks)
    mapped [] = refl
    mapped (k ∷ ks) = ap suc (mapped ks)

pub distinct_kept : (ks : List Block) → IsDistinct (λ a b. same_block (kept a) (kept b)) ks → IsDistinct same_block (map kept ks)
unfolding IsDistinct
distinct_kept [] h = tt
distinct_kept (k ∷ ks) h = (each k ks h.0, distinct_kept ks h.1)
  where
    each : (k : Block) (ks : List Block) → AllByRecursion (λ y. same_block (kept k) (kept y) ≡ false) ks → AllByRecursion (λ y. same_block (kept k) y ≡ false) (map kept ks)
    each k [] h = tt
    each k (y ∷ ks) h = (h.0, each k ks h.1)

-- ---- a new block

blocks_more : (es : Entries) (b : Block) → blocks_of (es ++ (b, 0) ∷ []) ≡ blocks_of es ++ kept b ∷ []
blocks_more [] b = refl
blocks_more (e ∷ es) b = ap (λ l. kept e.0 ∷ l) (blocks_more es b)

numbers_more : (es : Entries) (b : Block) → values_of (es ++ (b, 0) ∷ []) ≡ values_of es ++ 0 ∷ []
numbers_more [] b = refl
numbers_more (e ∷ es) b = ap (λ l. e.1 ∷ l) (numbers_more es b)

pub pool_more : (es new : Entries) (b : Block) (u : ℕ) → new ≡ es ++ (b, 0) ∷ [] → IsPool (blocks_of es) (values_of es) u → IsStored b.as4 b.bytes.items → IsPool (blocks_of new) (values_of new) (u + 1)
pool_more es new b u is pool stored = record {
  stored = subst (λ l. AllByRecursion (λ a. IsStored a.as4 a.block) (blocks_of l)) (sym is) (last es pool.stored);
  unused = ap (λ n. n + 1) pool.unused ∙ sym (unnamed_more (values_of es)) ∙ sym (ap unnamed (numbers_more es b)) ∙ sym (ap (λ l. unnamed (values_of l)) is);
}
  where
    last : (es : Entries) → AllByRecursion (λ a. IsStored a.as4 a.block) (blocks_of es) → AllByRecursion (λ a. IsStored a.as4 a.block) (blocks_of (es ++ (b, 0) ∷ []))
    last [] all = (stored, tt)
    last (e ∷ es) all = (all.0, last es all.1)

pub new_block : (es new : Entries) (b : Block) (a : AttributeBlock) (i : ℕ) → new ≡ es ++ (b, 0) ∷ [] → kept b ≡ a → i ≡ length es → (i < length (blocks_of new)) × (block_at (blocks_of new) i ≡ a)
new_block es new b a i is same at =
    (subst (λ (p : ℕ × Entries). p.0 < length (blocks_of p.1)) (λ j. (sym at j, sym is j)) (inside es), (λ j. block_at (blocks_of (is j)) (at j)) ∙ there es ∙ same)
  where
    inside : (es : Entries) → length es < length (blocks_of (es ++ (b, 0) ∷ []))
    inside [] = omega arith
    inside (e ∷ es) = let ih = inside es in omega (arith, ih)

    there : (es : Entries) → block_at (blocks_of (es ++ (b, 0) ∷ [])) (length es) ≡ kept b
    there [] = refl
    there (e ∷ es) = there es

pub old_block : (es new : Entries) (b : Block) (i : ℕ) → new ≡ es ++ (b, 0) ∷ [] → 0 < number_at (values_of es) i → block_at (blocks_of new) i ≡ block_at (blocks_of es) i
old_block es new b i is h = ap (λ l. block_at (blocks_of l) i) is ∙ there es i (within es i h)
  where
    there : (es : Entries) (i : ℕ) → i < length es → block_at (blocks_of (es ++ (b, 0) ∷ [])) i ≡ block_at (blocks_of es) i
    there [] i h = absurd (omega (arith, h))
    there (e ∷ es) zero h = refl
    there (e ∷ es) (suc i) h = there es i (omega (arith, h))

pub old_number : (es new : Entries) (b : Block) (i : ℕ) → new ≡ es ++ (b, 0) ∷ [] → number_at (values_of new) i ≡ number_at (values_of es) i
old_number es new b i is = ap (λ l. number_at (values_of l) i) is ∙ ap (λ l. number_at l i) (numbers_more es b) ∙ number_more (values_of es) i

pub none_some : {A : Type 0} (o : Option A) → false ≡ is_some o → o ≡ None
none_some None h = refl
none_some (Some x) h = absurd cc

-- ---- another number

pub pool_set : (es new : Entries) (u v : ℕ) → keys_of new ≡ keys_of es → IsPool (blocks_of es) (values_of es) u → v ≡ unnamed (values_of new) → IsPool (blocks_of new) (values_of new) v
pool_set es new u v keys pool counts = record {
  stored = subst (λ ks. AllByRecursion (λ a. IsStored a.as4 a.block) (map kept ks)) (sym keys) pool.stored;
  unused = counts;
}

pub others_left : (n k a b : ℕ) → n ≡ k → 0 < n → cond (n == 0) 1 0 + a ≡ cond (k - 1 == 0) 1 0 + b → (k == 1) ≡ false → a ≡ b
others_left n k a b is some h e = grind (arith, nat_tests)

pub not_one : (k : ℕ) → (k ≡ 1 → ⊥) → (k == 1) ≡ false
not_one k h = by (k == 1) refl
  where
    by : (b : Bool) → (k == 1) ≡ b → (k == 1) ≡ false
    by true e = absurd (h (eqb-true k 1 e))
    by false e = e

at_place : (ns : List ℕ) (i place : ℕ) → (i == place) ≡ true → number_at ns i ≡ number_at ns place
at_place ns i place h = ap (number_at ns) (number i place h)
  where
    number : (x y : ℕ) → (x == y) ≡ true → x ≡ y
    number x y h = grind (arith, nat_tests)

pub one_less : (ns : List ℕ) (i place k new : ℕ) → 0 < number_at ns place → number_at ns place ≡ k → new ≡ cond (i == place) (k - 1) (number_at ns i) → new + cond (i == place) 1 0 ≡ number_at ns i
one_less ns i place k new some is h = by (i == place) (at_place ns i place) h
  where
    by : (b : Bool) → (b ≡ true → number_at ns i ≡ number_at ns place) → new ≡ cond b (k - 1) (number_at ns i) → new + cond b 1 0 ≡ number_at ns i
    by true at h = let same = at refl in omega (arith, same, h, is, some)
    by false at h = omega (arith, h)

-- ---- without the blocks that no row names

abbrev pub pool_of : Entries → Pool
pool_of es = record { blocks = blocks_of es; numbers = values_of es }

abbrev pub in_use : Entries → Entries
in_use es = filter (λ e. nat_lt 0 e.1) es

pub pool_used : (es new : Entries) (u : ℕ) → new ≡ in_use es → IsPool (blocks_of es) (values_of es) u → IsPool (blocks_of new) (values_of new) 0
pool_used es new u is pool = record {
  stored = subst (λ l. AllByRecursion (λ a. IsStored a.as4 a.block) (blocks_of l)) (sym is) (kept_ones es pool.stored);
  unused = sym (ap (λ l. unnamed (values_of l)) is ∙ none_unnamed kept no_block es);
}
  where
    kept_ones : (es : Entries) → AllByRecursion (λ a. IsStored a.as4 a.block) (blocks_of es) → AllByRecursion (λ a. IsStored a.as4 a.block) (blocks_of (in_use es))
    kept_ones [] all = tt
    kept_ones (e ∷ es) all = by (nat_lt 0 e.1) (kept_ones es all.1)
      where
        by : (b : Bool) → AllByRecursion (λ a. IsStored a.as4 a.block) (blocks_of (in_use es)) → AllByRecursion (λ a. IsStored a.as4 a.block) (blocks_of (cond b (e ∷ in_use es) (in_use es)))
        by true ih = (all.0, ih)
        by false ih = ih

pub new_names : (es new : Entries) (names : List ℕ) (p : Pool) → pool_of es ≡ p → names ≡ renamed 0 (values_of es) → new ≡ in_use es → (i : ℕ) → 0 < number_at p.numbers i
    → (block_at (blocks_of new) (get_or names i 0) ≡ block_at p.blocks i) × (number_at (values_of new) (get_or names i 0) ≡ number_at p.numbers i)
new_names es new names p e names-are is =
    subst (λ (p : Pool). (i : ℕ) → 0 < number_at p.numbers i → (block_at (blocks_of new) (get_or names i 0) ≡ block_at p.blocks i) × (number_at (values_of new) (get_or names i 0) ≡ number_at p.numbers i)) e
    (λ i h.
    let n = name_at kept no_block 0 es i h in
    let place : get_or names i 0 ≡ n.place = ap (λ l. get_or l i 0) names-are ∙ n.is ∙ none n.place in
    ((λ j. block_at (blocks_of (is j)) (place j)) ∙ n.same, (λ j. number_at (values_of (is j)) (place j)) ∙ n.number))
  where
    none : (n : ℕ) → 0 + n ≡ n
    none n = omega arith

pub new_names_apart : (es : Entries) (names : List ℕ) (p : Pool) → pool_of es ≡ p → names ≡ renamed 0 (values_of es) → (i j : ℕ) → 0 < number_at p.numbers i → 0 < number_at p.numbers j → get_or names i 0 ≡ get_or names j 0 → i ≡ j
new_names_apart es names p e names-are i j h k same =
    names_apart kept no_block 0 es i j (subst (λ (p : Pool). 0 < number_at p.numbers i) (sym e) h) (subst (λ (p : Pool). 0 < number_at p.numbers j) (sym e) k)
    (ap (λ l. get_or l i 0) (sym names-are) ∙ same ∙ ap (λ l. get_or l j 0) names-are)

pub new_names_all : (es new : Entries) (names : List ℕ) (p : Pool) → pool_of es ≡ p → names ≡ renamed 0 (values_of es) → new ≡ in_use es → (k : ℕ) → 0 < number_at (values_of new) k
    → (i : ℕ) × (0 < number_at p.numbers i) × (get_or names i 0 ≡ k)
new_names_all es new names p e names-are is k h =
    let x = name_from kept no_block 0 es k (subst (λ (l : Entries). 0 < number_at (values_of l) k) is h) in
    (x.0, subst (λ (p : Pool). 0 < number_at p.numbers x.0) e x.1, ap (λ l. get_or l x.0 0) names-are ∙ x.2 ∙ none k)
  where
    none : (n : ℕ) → 0 + n ≡ n
    none n = omega arith
