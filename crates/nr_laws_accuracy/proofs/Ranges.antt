-- The lowest numbers that pass a test.
use Rattle.std.proofs.Common.{◌≡◌, ℕ, zero, suc, ◌+◌, ◌<◌, Bool, true, false, cond, not, ◌&&◌, eqb, List, [], ◌∷◌, Option, Some, None, refl, ap, subst, ◌∙◌, arith}
use Rattle.std.proofs.lemmas.Bool.{eq-eqb, ne_eqb}
use Rattle.std.proofs.lemmas.List.Elements.{filter_agree}
use Rattle.std.specs.List.{filter, find, range_with_len, AllByRecursion}
use Rattle.nr_spec_counts.specs.Causes.{lowest}
use Rattle.nr_spec_steps.specs.Steps.{passing}

-- what is found is the first that passes

none_by : (b : Bool) (x : ℕ) (kept : List ℕ) (found : Option ℕ) → (kept ≡ [] → found ≡ None) → cond b (x ∷ kept) kept ≡ [] → cond b (Some x) found ≡ None
none_by true x kept found later e = absurd cc
none_by false x kept found later e = later e

pub find_none : (p : ℕ → Bool) (xs : List ℕ) → filter p xs ≡ [] → find p xs ≡ None
find_none p [] e = refl
find_none p (x ∷ xs) e = none_by (p x) x (filter p xs) (find p xs) (find_none p xs) e

first_by : (b : Bool) (x n : ℕ) (ns kept : List ℕ) (found : Option ℕ) → (kept ≡ n ∷ ns → found ≡ Some n) → cond b (x ∷ kept) kept ≡ n ∷ ns → cond b (Some x) found ≡ Some n
first_by true x n ns kept found later e = cc
first_by false x n ns kept found later e = later e

pub find_first : (p : ℕ → Bool) (n : ℕ) (ns xs : List ℕ) → filter p xs ≡ n ∷ ns → find p xs ≡ Some n
find_first p n ns [] e = absurd cc
find_first p n ns (x ∷ xs) e = first_by (p x) x n ns (filter p xs) (find p xs) (find_first p n ns xs) e

-- ---- without one of them

abbrev pub but : (ℕ → Bool) → ℕ → ℕ → Bool
but p n m = p m && not (eqb n m)

still_none : (b c : Bool) (x : ℕ) (kept others : List ℕ) → (kept ≡ [] → others ≡ []) → cond b (x ∷ kept) kept ≡ [] → cond (b && c) (x ∷ others) others ≡ []
still_none true c x kept others later e = absurd cc
still_none false c x kept others later e = later e

pub none_but : (p : ℕ → Bool) (n : ℕ) (xs : List ℕ) → filter p xs ≡ [] → filter (but p n) xs ≡ []
none_but p n [] e = refl
none_but p n (x ∷ xs) e = still_none (p x) (not (eqb n x)) x (filter p xs) (filter (but p n) xs) (none_but p n xs) e

same_by : (b c : Bool) (x : ℕ) (kept others : List ℕ) → c ≡ false → others ≡ kept → cond (b && not c) (x ∷ others) others ≡ cond b (x ∷ kept) kept
same_by true true x kept others is same = absurd cc
same_by true false x kept others is same = ap (λ (l : List ℕ). x ∷ l) same
same_by false c x kept others is same = same

-- one that is below all of them isn't missed
pub below_all : (p : ℕ → Bool) (n from size : ℕ) → n < from → filter (but p n) (range_with_len from size) ≡ filter p (range_with_len from size)
below_all p n from zero lt = refl
below_all p n from (suc size) lt =
    same_by (p from) (eqb n from) from (filter p (range_with_len (from + 1) size)) (filter (but p n) (range_with_len (from + 1) size)) (ne_eqb n from (λ e. omega arith)) (below_all p n (from + 1) size (omega arith))

rest_by : (b : Bool) (p : ℕ → Bool) (from n size : ℕ) (ns : List ℕ) → p from ≡ b
    → (filter p (range_with_len (from + 1) size) ≡ n ∷ ns → filter (but p n) (range_with_len (from + 1) size) ≡ ns)
    → cond b (from ∷ filter p (range_with_len (from + 1) size)) (filter p (range_with_len (from + 1) size)) ≡ n ∷ ns
    → cond (b && not (eqb n from)) (from ∷ filter (but p n) (range_with_len (from + 1) size)) (filter (but p n) (range_with_len (from + 1) size)) ≡ ns
rest_by true p from n size ns is later e =
    let same : n ≡ from = cc in
    let rest : filter p (range_with_len (from + 1) size) ≡ ns = cc in
    let at : eqb n from ≡ true = eq-eqb n from same in
    rw at (below_all p n (from + 1) size (omega (arith, same)) ∙ rest)
rest_by false p from n size ns is later e = later e

-- without the first that passes the others are left
pub others_left : (p : ℕ → Bool) (n : ℕ) (ns : List ℕ) (from size : ℕ) → filter p (range_with_len from size) ≡ n ∷ ns → filter (but p n) (range_with_len from size) ≡ ns
others_left p n ns from zero e = absurd cc
others_left p n ns from (suc size) e = rest_by (p from) p from n size ns refl (others_left p n ns (from + 1) size) e

-- ---- as the definitions have it

pub lowest_none : (bound : ℕ) (p : ℕ → Bool) → passing bound p ≡ [] → lowest bound p ≡ None
unfolding passing lowest
lowest_none bound p e = find_none p (range_with_len 0 bound) e

pub lowest_some : (bound : ℕ) (p : ℕ → Bool) (n : ℕ) (ns : List ℕ) → passing bound p ≡ n ∷ ns → lowest bound p ≡ Some n
unfolding passing lowest
lowest_some bound p n ns e = find_first p n ns (range_with_len 0 bound) e

pub passing_rest : (bound : ℕ) (p q : ℕ → Bool) (n : ℕ) (ns : List ℕ) → ((m : ℕ) → q m ≡ but p n m) → passing bound p ≡ n ∷ ns → passing bound q ≡ ns
unfolding passing
passing_rest bound p q n ns same e = filter_agree q (but p n) same (range_with_len 0 bound) ∙ others_left p n ns 0 bound e

pub passing_none : (bound : ℕ) (p q : ℕ → Bool) (n : ℕ) → ((m : ℕ) → q m ≡ but p n m) → passing bound p ≡ [] → passing bound q ≡ []
unfolding passing
passing_none bound p q n same e = filter_agree q (but p n) same (range_with_len 0 bound) ∙ none_but p n (range_with_len 0 bound) e

pub passing_same : (bound : ℕ) (p q : ℕ → Bool) → ((m : ℕ) → q m ≡ p m) → passing bound q ≡ passing bound p
unfolding passing
passing_same bound p q same = filter_agree q p same (range_with_len 0 bound)

each_by : (b : Bool) (p : ℕ → Bool) (x top : ℕ) (kept : List ℕ) → p x ≡ b → x < top → AllByRecursion (λ m. (p m ≡ true) × (m < top)) kept → AllByRecursion (λ m. (p m ≡ true) × (m < top)) (cond b (x ∷ kept) kept)
each_by true p x top kept is lt later = ((is, lt), later)
each_by false p x top kept is lt later = later

each_passes : (p : ℕ → Bool) (top from size : ℕ) → from + size ≡ top → AllByRecursion (λ m. (p m ≡ true) × (m < top)) (filter p (range_with_len from size))
each_passes p top from zero e = tt
each_passes p top from (suc size) e = each_by (p from) p from top (filter p (range_with_len (from + 1) size)) refl (omega arith) (each_passes p top (from + 1) size (omega arith))

-- each of them passes, and is below the bound
pub passing_each : (bound : ℕ) (p : ℕ → Bool) → AllByRecursion (λ m. (p m ≡ true) × (m < bound)) (passing bound p)
unfolding passing
passing_each bound p = each_passes p bound 0 bound (omega arith)

pub passing_first : (bound : ℕ) (p : ℕ → Bool) (n : ℕ) (ns : List ℕ) → passing bound p ≡ n ∷ ns → (p n ≡ true) × (n < bound)
passing_first bound p n ns e = let all = subst (AllByRecursion (λ (m : ℕ). (p m ≡ true) × (m < bound))) e (passing_each bound p) in all.0
