-- Pieces that were written one behind another.
use Rattle.std.proofs.Common.{◌≡◌, ℕ, zero, suc, ◌+◌, ◌<◌, ◌≤◌, List, [], ◌∷◌, ◌++◌, length, map, take, refl, sym, ap, ◌∙◌, append_assoc, add-one, arith}
use Rattle.std.specs.Prelude.{Option, Some}
use Rattle.std.specs.List.{slice_get, flat_map}
use Rattle.std.proofs.lemmas.List.{append-nil, length-append}
use Rattle.std.proofs.lemmas.List.Concat.{flat_map-append, flat_map-cons}

two : (o x y a b : List ℕ) → x ≡ o ++ a → y ≡ x ++ b → y ≡ o ++ (a ++ b)
two o x y a b h k = k ∙ (ap (λ l. l ++ b) h ∙ append_assoc o a b)

pub six : (o x1 x2 x3 x4 x5 x6 a b c d e f : List ℕ) → x1 ≡ o ++ a → x2 ≡ x1 ++ b → x3 ≡ x2 ++ c → x4 ≡ x3 ++ d → x5 ≡ x4 ++ e → x6 ≡ x5 ++ f
    → x6 ≡ o ++ (a ++ (b ++ (c ++ (d ++ (e ++ f)))))
six o x1 x2 x3 x4 x5 x6 a b c d e f h1 h2 h3 h4 h5 h6 =
    two o x1 x6 a _ h1 (two x1 x2 x6 b _ h2 (two x2 x3 x6 c _ h3 (two x3 x4 x6 d _ h4 (two x4 x5 x6 e f h5 h6))))

pub four : (o x1 x2 x3 x4 a b c d : List ℕ) → x1 ≡ o ++ a → x2 ≡ x1 ++ b → x3 ≡ x2 ++ c → x4 ≡ x3 ++ d → x4 ≡ o ++ (a ++ (b ++ (c ++ d)))
four o x1 x2 x3 x4 a b c d h1 h2 h3 h4 = two o x1 x4 a _ h1 (two x1 x2 x4 b _ h2 (two x2 x3 x4 c d h3 h4))

abbrev some_of : {A : Type 0} → A → Option A
some_of x = Some x

pub taken_more : {A : Type 0} (xs : List A) (i : ℕ) (x : A) → slice_get xs i ≡ Some x → take (i + 1) xs ≡ take i xs ++ x ∷ []
taken_more {A} xs i x h = rw add-one (go xs i h)
  where
    some_is : (x y : A) → some_of x ≡ some_of y → x ≡ y
    some_is x y e = cc

    go : (xs : List A) (i : ℕ) → slice_get xs i ≡ Some x → take (suc i) xs ≡ take i xs ++ x ∷ []
    go [] i h = absurd cc
    go (y ∷ xs) zero h = ap (λ z. z ∷ []) (some_is y x h)
    go (y ∷ xs) (suc i) h = ap (λ l. y ∷ l) (go xs i h)

pub one_more : {A : Type 0} (f : A → List ℕ) (o now next : List ℕ) (xs : List A) (i : ℕ) (x : A) → slice_get xs i ≡ Some x → now ≡ o ++ flat_map f (take i xs) → next ≡ now ++ f x
    → next ≡ o ++ flat_map f (take (i + 1) xs)
one_more f o now next xs i x got so_far added =
    added ∙ (ap (λ l. l ++ f x) so_far ∙ (append_assoc o (flat_map f (take i xs)) (f x)
    ∙ ap (λ l. o ++ l) (ap (λ l. flat_map f (take i xs) ++ l) (sym (append-nil (f x))) ∙ (sym (flat_map-append f (take i xs) (x ∷ [])) ∙ ap (flat_map f) (sym (taken_more xs i x got))))))

pub flat_of_map : {A B : Type 0} (f : A → B) (g : B → List ℕ) (xs : List A) → flat_map (λ x. g (f x)) xs ≡ flat_map g (map f xs)
flat_of_map f g [] = refl
flat_of_map f g (x ∷ xs) = ap (λ l. g (f x) ++ l) (flat_of_map f g xs)

pub length_of_map : {A B : Type 0} (f : A → B) (xs : List A) → length xs ≡ length (map f xs)
length_of_map f [] = refl
length_of_map f (x ∷ xs) = ap (λ n. suc n) (length_of_map f xs)
