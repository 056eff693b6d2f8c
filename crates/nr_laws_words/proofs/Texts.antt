-- The words of items, as uses, in both directions.
use Rattle.std.proofs.Common.{◌≡◌, ◌∙◌, ◌==◌, ◌+◌, ℕ, Bool, cond, true, false, not, refl, ap, ap₂, [], ◌∷◌, ◌++◌, drop, take, Option, Some, None, bytes_eq, append_assoc, unwrap_or, suc, zero, codes, arith, one-add}
use Rattle.std.specs.List.{list_any, prefix_len}
use Rattle.std.proofs.lemmas.Bool.{and_parts, not-true, eqb-true, eqb-false, or_parts}
use Rattle.clap.specs.Lexer.{has_byte, long_of, name_and_value}
use Rattle.clap.specs.Walk.{Text}
use Rattle.clap.proofs.CutLemmas.{Lacks}
use Rattle.clap.proofs.LexerLemmas.{name_and_value-at, name_and_value-without}
use Rattle.nr_laws_words.specs.Pairs.{dashes, is_name}

-- ---- the two parts of the word of an option

abbrev pub tail : Option Text → Text
tail None = []
tail (Some v) = 61 ∷ v

parted : (text : Text) → text ≡ (name_and_value text).0 ++ tail (name_and_value text).1
parted [] = refl
parted (x ∷ xs) = go (x == 61) refl (parted xs)
  where
    k : ℕ
    k = prefix_len (λ y. not (y == 61)) xs

    go : (b : Bool) → (x == 61) ≡ b → xs ≡ take k xs ++ tail (cond (has_byte 61 xs) (Some (drop (k + 1) xs)) None) → (x ∷ xs) ≡ (name_and_value (x ∷ xs)).0 ++ tail (name_and_value (x ∷ xs)).1
    go true e ih = rw e (ap (λ y. y ∷ xs) (eqb-true x 61 e))
    go false e ih =
        let more : suc k + 1 ≡ suc (k + 1) = omega arith in
        rw (e, one-add k, more) (ap (λ ys. x ∷ ys) ih)

pub long_text : (word name : Text) (v : Option Text) → long_of word ≡ Some (name, v) → word ≡ (dashes ++ name) ++ tail v
long_text [] name v l = absurd cc
long_text (a ∷ rest) name v l = by_first (a == 45) refl rest l
  where
    by_more : (b : ℕ) (more : Text) → (a == 45) ≡ true → (b == 45) ≡ true → long_of (a ∷ b ∷ more) ≡ Some (name, v) → (a ∷ b ∷ more) ≡ (dashes ++ name) ++ tail v
    by_more b [] e f l = let bad : ◌≡◌ {A = Option (Text × Option Text)} None (Some (name, v)) = rw (e, f) at l in absurd cc
    by_more b (x ∷ xs) e f l =
        let is : Some (name_and_value (x ∷ xs)) ≡ Some (name, v) = rw (e, f) at l in
        let pair : ◌≡◌ {A = Text × Option Text} (name_and_value (x ∷ xs)) (name, v) = ap (λ o. unwrap_or o (name, v)) is in
        ap₂ (λ p q. p ∷ q ∷ x ∷ xs) (eqb-true a 45 e) (eqb-true b 45 f) ∙ ap (λ t. 45 ∷ 45 ∷ t) (parted (x ∷ xs)) ∙ ap (λ (p : Text × Option Text). (dashes ++ p.0) ++ tail p.1) pair

    by_second : (b : ℕ) (more : Text) (t : Bool) → (b == 45) ≡ t → (a == 45) ≡ true → long_of (a ∷ b ∷ more) ≡ Some (name, v) → (a ∷ b ∷ more) ≡ (dashes ++ name) ++ tail v
    by_second b more true f e l = by_more b more e f l
    by_second b more false f e l = let bad : ◌≡◌ {A = Option (Text × Option Text)} None (Some (name, v)) = rw (e, f) at l in absurd cc

    by_first : (t : Bool) → (a == 45) ≡ t → (rest : Text) → long_of (a ∷ rest) ≡ Some (name, v) → (a ∷ rest) ≡ (dashes ++ name) ++ tail v
    by_first false e rest l = let bad : ◌≡◌ {A = Option (Text × Option Text)} None (Some (name, v)) = rw e at l in absurd cc
    by_first true e [] l = let bad : ◌≡◌ {A = Option (Text × Option Text)} None (Some (name, v)) = rw e at l in absurd cc
    by_first true e (b ∷ more) l = by_second b more (b == 45) refl e l

lacks : (c : ℕ) (xs : Text) → list_any (λ x. x == c) xs ≡ false → Lacks c xs
lacks c [] e i lt = absurd (omega arith)
lacks c (x ∷ xs) e zero lt = eqb-false x c (or_parts (x == c) (list_any (λ y. y == c) xs) e).0
lacks c (x ∷ xs) e (suc i) lt = lacks c xs (or_parts (x == c) (list_any (λ y. y == c) xs) e).1 i (omega arith)

-- the looks of an option's word
pub alone_looks : (name : Text) → is_name name ≡ true → (bytes_eq (dashes ++ name) dashes ≡ false) × (long_of (dashes ++ name) ≡ Some (name, None))
alone_looks [] is = absurd cc
alone_looks (x ∷ xs) is = (refl, ap Some (name_and_value-without (x ∷ xs) (lacks 61 (x ∷ xs) (not-true _ (and_parts _ _ is).1))))

pub joined_looks : (name v : Text) → is_name name ≡ true → (bytes_eq (dashes ++ name ++ codes "=" ++ v) dashes ≡ false) × (long_of (dashes ++ name ++ codes "=" ++ v) ≡ Some (name, Some v))
joined_looks [] v is = absurd cc
joined_looks (x ∷ xs) v is = (refl, ap (λ t. Some (name_and_value (x ∷ t))) (append_assoc xs (61 ∷ []) v) ∙ ap Some (name_and_value-at (x ∷ xs) v (lacks 61 (x ∷ xs) (not-true _ (and_parts _ _ is).1))))
