-- The texts of numbers, addresses, prefixes and communities are read as what they stand for.
use Rattle.std.proofs.Common.{◌≡◌, ℕ, zero, suc, ◌+◌, ◌-◌, ◌*◌, ◌/◌, ◌%◌, ◌^◌, ◌<◌, ◌≤◌, Bool, true, false, ◌&&◌, ◌||◌, not, eqb, leb, ltb, List, [], ◌∷◌, ◌++◌, length, drop, get_or, Some, None, refl, ap, ◌∙◌, arith}
use Rattle.std.specs.List.{list_all, prefix_len}
use Rattle.std.specs.Char.{is_ascii_digit}
use Rattle.std.specs.Fmt.{decimal}
use Rattle.std.proofs.lemmas.Fmt.{decimal_by_steps}
use Rattle.std.proofs.lemmas.Bool.{le-leb, eqb-true, eqb-false, ne_eqb, lt-ltb, le-ltb}
use Rattle.std.proofs.lemmas.List.{take_at}
use Rattle.std.proofs.lemmas.List.Folds.{list_all-append}
use Rattle.nr_spec_rules.specs.Figures.{worth_from, is_numeral, number_to, cut}

pub both_true : (a b : Bool) → a ≡ true → b ≡ true → (a && b) ≡ true
both_true true true p q = refl
both_true true false p q = absurd cc
both_true false b p q = absurd cc

pub of_both : (a b : Bool) → (a && b) ≡ true → (a ≡ true) × (b ≡ true)
of_both true true e = (refl, refl)
of_both true false e = absurd cc
of_both false b e = absurd cc

digit_is : (n : ℕ) → n < 10 → is_ascii_digit (48 + n) ≡ true
digit_is n h = both_true (leb 48 (48 + n)) (leb (48 + n) 57) (le-leb 48 (48 + n) (omega arith)) (le-leb (48 + n) 57 (omega arith))

-- digits that write a number
pub record Writes (n : ℕ) (ds : List ℕ) : Type 0 where
  pub digits : list_all is_ascii_digit ds ≡ true
  pub worth : worth_from 0 ds ≡ n
  pub first : 0 < n → 48 < get_or ds 0 0
  pub some : 0 < length ds
  pub alone : n < 10 → length ds ≡ 1

worth_push : (m : ℕ) (ds : List ℕ) (c : ℕ) → worth_from m (ds ++ c ∷ []) ≡ 10 * worth_from m ds + (c - 48)
worth_push m [] c = refl
worth_push m (d ∷ ds) c = worth_push (10 * m + (d - 48)) ds c

first_push : (ds : List ℕ) (c : ℕ) → 0 < length ds → get_or (ds ++ c ∷ []) 0 0 ≡ get_or ds 0 0
first_push [] c h = absurd (omega arith)
first_push (d ∷ ds) c h = refl

length_push : (ds : List ℕ) (c : ℕ) → 0 < length (ds ++ c ∷ [])
length_push [] c = omega arith
length_push (d ∷ ds) c = omega arith

writes_one : (n : ℕ) → n < 10 → Writes n ((48 + n) ∷ [])
writes_one n h = record {
  digits = both_true (is_ascii_digit (48 + n)) true (digit_is n h) refl;
  worth = omega arith;
  first = λ some. omega arith;
  some = omega arith;
  alone = λ small. refl;
}

writes_more : (n : ℕ) (ds : List ℕ) → 10 ≤ n → Writes (n / 10) ds → Writes n (ds ++ ((48 + n % 10) ∷ []))
writes_more n ds h w = record {
  digits = list_all-append is_ascii_digit ds ((48 + n % 10) ∷ []) ∙ both_true (list_all is_ascii_digit ds) _ w.digits (both_true (is_ascii_digit (48 + n % 10)) true (digit_is (n % 10) (omega arith)) refl);
  worth = omega (arith, worth_push 0 ds (48 + n % 10), w.worth);
  first = λ some. let f : 48 < get_or ds 0 0 = w.first (omega arith) in omega (arith, f, first_push ds (48 + n % 10) w.some);
  some = length_push ds (48 + n % 10);
  alone = λ small. absurd (omega arith);
}

pub writes_decimal : (n : ℕ) → n < 2 ^ 64 → Writes n (decimal n)
writes_decimal = decimal_by_steps Writes writes_one writes_more

numeral_of : (n : ℕ) (ds : List ℕ) → Writes n ds → is_numeral ds ≡ true
numeral_of n [] w = absurd (omega (arith, w.some))
numeral_of zero (d ∷ ds) w = both_true (list_all is_ascii_digit (d ∷ ds)) _ w.digits (last (not (eqb d 48)) (eqb (length ds) 0) (only (length ds) (omega (arith, w.alone (omega arith)))))
  where
    last : (a b : Bool) → b ≡ true → (a || b) ≡ true
    last true b e = refl
    last false b e = e

    only : (n : ℕ) → n ≡ 0 → eqb n 0 ≡ true
    only zero e = refl
    only (suc n) e = absurd (omega arith)
numeral_of (suc n) (d ∷ ds) w =
    let ne : eqb d 48 ≡ false = ne_eqb d 48 (λ e. omega (arith, w.first (omega arith), e)) in
    both_true (list_all is_ascii_digit (d ∷ ds)) _ w.digits (rw ne refl)

pub number_again : (most n : ℕ) (ds : List ℕ) → Writes n ds → n ≤ most → number_to most ds ≡ Some n
unfolding number_to
number_again most n ds w h =
    let fine : leb (worth_from 0 ds) most ≡ true = le-leb _ _ (omega (arith, w.worth)) in
    rw (both_true (is_numeral ds) _ (numeral_of n ds w) fine, w.worth) refl

-- ---- parts of a text

pub Lacks : ℕ → List ℕ → Type 0
Lacks byte [] = Unit {0}
Lacks byte (x ∷ xs) = (eqb x byte ≡ false) × Lacks byte xs

is_not : (x byte : ℕ) (b : Bool) → eqb x byte ≡ b → is_ascii_digit x ≡ true → is_ascii_digit byte ≡ false → b ≡ false
is_not x byte true e p q = let same : x ≡ byte = eqb-true x byte e in absurd (cc (ap is_ascii_digit same))
is_not x byte false e p q = refl

pub lacks_digits : (byte : ℕ) (ds : List ℕ) → list_all is_ascii_digit ds ≡ true → is_ascii_digit byte ≡ false → Lacks byte ds
unfolding Lacks
lacks_digits byte [] h e = tt
lacks_digits byte (d ∷ ds) h e =
    let both = of_both (is_ascii_digit d) (list_all is_ascii_digit ds) h in
    let no = is_not d byte (eqb d byte) refl both.0 e in
    (no, lacks_digits byte ds both.1 e)

pub lacks_both : (byte : ℕ) (xs ys : List ℕ) → Lacks byte xs → Lacks byte ys → Lacks byte (xs ++ ys)
unfolding Lacks
lacks_both byte [] ys p q = q
lacks_both byte (x ∷ xs) ys p q = (p.0, lacks_both byte xs ys p.1 q)

pub lacks_one : (byte x : ℕ) (xs : List ℕ) → eqb x byte ≡ false → Lacks byte xs → Lacks byte (x ∷ xs)
unfolding Lacks
lacks_one byte x xs e p = (e, p)

self : (n : ℕ) → eqb n n ≡ true
self n = let l : n ≡ n = refl in eq_self n (eqb n n) refl
  where
    eq_self : (n : ℕ) (b : Bool) → eqb n n ≡ b → b ≡ true
    eq_self n true e = refl
    eq_self n false e = absurd (eqb-false n n e refl)

place_of_byte : (byte : ℕ) (ds rest : List ℕ) → Lacks byte ds → prefix_len (λ x. not (eqb x byte)) (ds ++ byte ∷ rest) ≡ length ds
unfolding Lacks
place_of_byte byte [] rest p = rw (self byte) refl
place_of_byte byte (d ∷ ds) rest p = rw p.0 (omega (arith, place_of_byte byte ds rest p.1))

no_place : (byte : ℕ) (ds : List ℕ) → Lacks byte ds → prefix_len (λ x. not (eqb x byte)) ds ≡ length ds
unfolding Lacks
no_place byte [] p = refl
no_place byte (d ∷ ds) p = rw p.0 (omega (arith, no_place byte ds p.1))

shorter : (ds : List ℕ) (byte : ℕ) (rest : List ℕ) → length ds < length (ds ++ byte ∷ rest)
shorter [] byte rest = omega arith
shorter (d ∷ ds) byte rest = omega (arith, shorter ds byte rest)

behind_it : (ds : List ℕ) (byte : ℕ) (rest : List ℕ) → drop (length ds + 1) (ds ++ byte ∷ rest) ≡ rest
behind_it [] byte rest = refl
behind_it (d ∷ ds) byte rest = let e : suc (length ds) + 1 ≡ suc (length ds + 1) = omega arith in rw e (behind_it ds byte rest)

pub cut_at : (byte : ℕ) (ds rest : List ℕ) → Lacks byte ds → cut byte (ds ++ byte ∷ rest) ≡ Some (ds, rest)
unfolding cut
cut_at byte ds rest p =
    let here = place_of_byte byte ds rest p in
    let test : ltb (length ds) (length (ds ++ byte ∷ rest)) ≡ true = lt-ltb _ _ (shorter ds byte rest) in
    rw (here, test, take_at ds (byte ∷ rest) (length ds) refl, behind_it ds byte rest) refl

pub cut_none : (byte : ℕ) (ds : List ℕ) → Lacks byte ds → cut byte ds ≡ None
unfolding cut
cut_none byte ds p =
    let test : ltb (length ds) (length ds) ≡ false = le-ltb _ _ (omega arith) in
    rw (no_place byte ds p, test) refl
