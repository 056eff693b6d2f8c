-- What holds of each element of a list.
use Rattle.std.proofs.Common.{Bool, true, false, cond, List, [], ◌∷◌, ◌++◌, map}
use Rattle.std.specs.Prelude.{filter}
use Rattle.std.specs.List.{AllByRecursion, flat_map}

module _ {X : Type 0} (P : X → Type 0) where
  pub each_appended : (xs ys : List X) → AllByRecursion P xs → AllByRecursion P ys → AllByRecursion P (xs ++ ys)
  each_appended [] ys h k = k
  each_appended (x ∷ xs) ys h k = (h.0, each_appended xs ys h.1 k)

  pub each_filtered : (test : X → Bool) (xs : List X) → AllByRecursion P xs → AllByRecursion P (filter test xs)
  each_filtered test [] h = tt
  each_filtered test (x ∷ xs) h = by (test x) (each_filtered test xs h.1)
    where
      by : (b : Bool) → AllByRecursion P (filter test xs) → AllByRecursion P (cond b (x ∷ filter test xs) (filter test xs))
      by true later = (h.0, later)
      by false later = later

  pub each_mapped : {Y : Type 0} (f : Y → X) (ys : List Y) → AllByRecursion (λ (y : Y). P (f y)) ys → AllByRecursion P (map f ys)
  each_mapped f [] h = tt
  each_mapped f (y ∷ ys) h = (h.0, each_mapped f ys h.1)

  pub each_unmapped : {Y : Type 0} (f : Y → X) (ys : List Y) → AllByRecursion P (map f ys) → AllByRecursion (λ (y : Y). P (f y)) ys
  each_unmapped f [] h = tt
  each_unmapped f (y ∷ ys) h = (h.0, each_unmapped f ys h.1)

  pub each_flat : {Y : Type 0} (f : Y → List X) (ys : List Y) → AllByRecursion (λ (y : Y). AllByRecursion P (f y)) ys → AllByRecursion P (flat_map f ys)
  each_flat f [] h = tt
  each_flat f (y ∷ ys) h = each_appended (f y) (flat_map f ys) h.0 (each_flat f ys h.1)

  pub each_weaker : (Q : X → Type 0) → ((x : X) → Q x → P x) → (xs : List X) → AllByRecursion Q xs → AllByRecursion P xs
  each_weaker Q w [] h = tt
  each_weaker Q w (x ∷ xs) h = (w x h.0, each_weaker Q w xs h.1)
