-- Members of lists.
use Rattle.std.proofs.Common.{◌≡◌, ◌⊎◌, inl, inr, Bool, true, false, List, [], ◌∷◌, ◌++◌, refl, ap, ◌∙◌}
use Rattle.std.specs.Prelude.{filter, map, if◌then◌else◌}
use Rattle.nr_laws_promises.specs.BrokenRows.{IsOneOf}

pub one_left : {X : Type 0} (x : X) (xs ys : List X) → IsOneOf x xs → IsOneOf x (xs ++ ys)
one_left x [] ys h = absurd h
one_left x (y ∷ xs) ys (inl e) = inl e
one_left x (y ∷ xs) ys (inr h) = inr (one_left x xs ys h)

pub one_right : {X : Type 0} (x : X) (xs ys : List X) → IsOneOf x ys → IsOneOf x (xs ++ ys)
one_right x [] ys h = h
one_right x (y ∷ xs) ys h = inr (one_right x xs ys h)

pub one_of_both : {X : Type 0} (x : X) (xs ys : List X) → IsOneOf x (xs ++ ys) → IsOneOf x xs ⊎ IsOneOf x ys
one_of_both x [] ys h = inr h
one_of_both x (y ∷ xs) ys (inl e) = inl (inl e)
one_of_both x (y ∷ xs) ys (inr h) = by (one_of_both x xs ys h) where
  by : IsOneOf x xs ⊎ IsOneOf x ys → IsOneOf x (y ∷ xs) ⊎ IsOneOf x ys
  by (inl left) = inl (inr left)
  by (inr right) = inr right

pub one_mapped : {X Y : Type 0} (f : X → Y) (x : X) (xs : List X) → IsOneOf x xs → IsOneOf (f x) (map f xs)
one_mapped f x [] h = absurd h
one_mapped f x (y ∷ xs) (inl e) = inl (ap f e)
one_mapped f x (y ∷ xs) (inr h) = inr (one_mapped f x xs h)

pub from_mapped : {X Y : Type 0} (f : X → Y) (y : Y) (xs : List X) → IsOneOf y (map f xs) → (x : X) × (y ≡ f x) × IsOneOf x xs
from_mapped f y [] h = absurd h
from_mapped f y (x ∷ xs) (inl e) = (x, e, inl refl)
from_mapped f y (x ∷ xs) (inr h) = let found = from_mapped f y xs h in (found.0, found.1, inr found.2)

pub filtered : {X : Type 0} (test : X → Bool) (x : X) (xs : List X) → IsOneOf x (filter test xs) → IsOneOf x xs × (test x ≡ true)
filtered test x [] h = absurd h
filtered test x (y ∷ xs) h = by (test y) refl h (filtered test x xs)
  where
    by : (b : Bool) → test y ≡ b → IsOneOf x (if b then y ∷ filter test xs else filter test xs)
        → (IsOneOf x (filter test xs) → IsOneOf x xs × (test x ≡ true)) → IsOneOf x (y ∷ xs) × (test x ≡ true)
    by true e (inl same) ih = (inl same, ap test same ∙ e)
    by true e (inr later) ih = let found = ih later in (inr found.0, found.1)
    by false e later ih = let found = ih later in (inr found.0, found.1)

pub passed : {X : Type 0} (test : X → Bool) (x : X) (xs : List X) → test x ≡ true → IsOneOf x xs → IsOneOf x (filter test xs)
passed test x [] t h = h
passed test x (y ∷ xs) t h = by (test y) refl h (passed test x xs t)
  where
    by : (b : Bool) → test y ≡ b → IsOneOf x (y ∷ xs) → (IsOneOf x xs → IsOneOf x (filter test xs))
        → IsOneOf x (if b then y ∷ filter test xs else filter test xs)
    by true e (inl same) ih = inl same
    by true e (inr later) ih = inr (ih later)
    by false e (inl same) ih = absurd (let u : test x ≡ false = ap test same ∙ e in cc)
    by false e (inr later) ih = ih later
