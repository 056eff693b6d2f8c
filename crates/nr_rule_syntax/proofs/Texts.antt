-- A list printed item by item: what is there so far, before what is left.
use Rattle.std.proofs.Common.{◌≡◌, ℕ, suc, ◌+◌, ◌<◌, ◌≤◌, List, [], ◌∷◌, ◌++◌, map, length, drop, get_or, refl, ap, sym, ◌∙◌, append_assoc, arith}
use Rattle.std.proofs.Math.Seq.{drop-cons}
use Rattle.std.proofs.Math.ListN.{drop_of_length-le}
use Rattle.std.proofs.lemmas.List.{append-nil}
use Rattle.nr_rule_syntax.specs.Printing.{each_behind}

first_left : {A : Type 0} (xs : List A) (i : ℕ) (x : A) → i < length xs → x ≡ get_or xs i x → drop i xs ≡ x ∷ drop (i + 1) xs
first_left xs i x lt e =
    let n : suc i ≡ i + 1 = omega arith in
    drop-cons xs i x lt ∙ ap (λ y. y ∷ drop (suc i) xs) (sym e) ∙ ap (λ k. x ∷ drop k xs) n

pub each_step : {A : Type 0} (between : List ℕ) (f : A → List ℕ) (xs : List A) (i : ℕ) (x : A) (out one two : List ℕ) → i < length xs → x ≡ get_or xs i x
    → one ≡ out ++ between → two ≡ one ++ f x
    → two ++ each_behind between (map f (drop (i + 1) xs)) ≡ out ++ each_behind between (map f (drop i xs))
each_step between f xs i x out one two lt e a b = rw (first_left xs i x lt e, b, a) (simp append_assoc)

pub each_done : {A : Type 0} (between : List ℕ) (f : A → List ℕ) (xs : List A) (i : ℕ) (out whole : List ℕ) → length xs ≤ i
    → out ++ each_behind between (map f (drop i xs)) ≡ whole → out ≡ whole
each_done between f xs i out whole le same = sym (append-nil out) ∙ (rw (drop_of_length-le xs le) at same)

pub mapped_twice : {A B C : Type 0} (f : A → B) (g : B → C) (xs : List A) → map (λ x. g (f x)) xs ≡ map g (map f xs)
mapped_twice f g [] = refl
mapped_twice f g (x ∷ xs) = ap (λ ys. g (f x) ∷ ys) (mapped_twice f g xs)
