-- What is among the elements of a list, and lists in order.
use Rattle.std.proofs.Common.{◌≡◌, ◌⊎◌, inl, inr, ◌↔◌, Bool, true, false, List, [], ◌∷◌, ◌++◌, refl, ap, sym, subst, ◌∙◌}
use Rattle.std.specs.Prelude.{filter, map, if◌then◌else◌}
use Rattle.std.specs.List.{AllByRecursion, flat_map}
use Rattle.std.specs.List.Sorted.{IsStrictlySortedBy}
use Rattle.std.specs.Ordering.{ordering_reverse}
use Rattle.std.specs.declared.cmp.Ordering.{Ordering}
use Rattle.std.specs.declared.cmp.Ordering.TheVariants.{Less, Equal, Greater}
use Rattle.std.specs.Cmp.{IsTotalOrder}
use Rattle.std.proofs.lemmas.Cmp.{tied_itself}
use Rattle.nr_laws_promises.specs.BrokenRows.{IsOneOf}

pub one_left : {X : Type 0} (x : X) (xs ys : List X) → IsOneOf x xs → IsOneOf x (xs ++ ys)
one_left x [] ys h = absurd h
one_left x (y ∷ xs) ys (inl e) = inl e
one_left x (y ∷ xs) ys (inr h) = inr (one_left x xs ys h)

pub one_right : {X : Type 0} (x : X) (xs ys : List X) → IsOneOf x ys → IsOneOf x (xs ++ ys)
one_right x [] ys h = h
one_right x (y ∷ xs) ys h = inr (one_right x xs ys h)

pub one_of_both : {X : Type 0} (x : X) (xs ys : List X) → IsOneOf x (xs ++ ys) → IsOneOf x xs ⊎ IsOneOf x ys
one_of_both x [] ys h = inr h
one_of_both x (y ∷ xs) ys (inl e) = inl (inl e)
one_of_both x (y ∷ xs) ys (inr h) = by (one_of_both x xs ys h) where
  by : IsOneOf x xs ⊎ IsOneOf x ys → IsOneOf x (y ∷ xs) ⊎ IsOneOf x ys
  by (inl left) = inl (inr left)
  by (inr right) = inr right

pub one_mapped : {X Y : Type 0} (f : X → Y) (x : X) (xs : List X) → IsOneOf x xs → IsOneOf (f x) (map f xs)
one_mapped f x [] h = absurd h
one_mapped f x (y ∷ xs) (inl e) = inl (ap f e)
one_mapped f x (y ∷ xs) (inr h) = inr (one_mapped f x xs h)

pub from_mapped : {X Y : Type 0} (f : X → Y) (y : Y) (xs : List X) → IsOneOf y (map f xs) → (x : X) × (y ≡ f x) × IsOneOf x xs
from_mapped f y [] h = absurd h
from_mapped f y (x ∷ xs) (inl e) = (x, e, inl refl)
from_mapped f y (x ∷ xs) (inr h) = let found = from_mapped f y xs h in (found.0, found.1, inr found.2)

pub filtered : {X : Type 0} (test : X → Bool) (x : X) (xs : List X) → IsOneOf x (filter test xs) → IsOneOf x xs × (test x ≡ true)
filtered test x [] h = absurd h
filtered test x (y ∷ xs) h = by (test y) refl h (filtered test x xs)
  where
    by : (b : Bool) → test y ≡ b → IsOneOf x (if b then y ∷ filter test xs else filter test xs)
        → (IsOneOf x (filter test xs) → IsOneOf x xs × (test x ≡ true)) → IsOneOf x (y ∷ xs) × (test x ≡ true)
    by true e (inl same) ih = (inl same, ap test same ∙ e)
    by true e (inr later) ih = let found = ih later in (inr found.0, found.1)
    by false e later ih = let found = ih later in (inr found.0, found.1)

pub passed : {X : Type 0} (test : X → Bool) (x : X) (xs : List X) → test x ≡ true → IsOneOf x xs → IsOneOf x (filter test xs)
passed test x [] t h = h
passed test x (y ∷ xs) t h = by (test y) refl h (passed test x xs t)
  where
    by : (b : Bool) → test y ≡ b → IsOneOf x (y ∷ xs) → (IsOneOf x xs → IsOneOf x (filter test xs))
        → IsOneOf x (if b then y ∷ filter test xs else filter test xs)
    by true e (inl same) ih = inl same
    by true e (inr later) ih = inr (ih later)
    by false e (inl same) ih = absurd (let u : test x ≡ false = ap test same ∙ e in cc)
    by false e (inr later) ih = ih later

pub one_flat : {X Y : Type 0} (f : X → List Y) (x : X) (y : Y) (xs : List X) → IsOneOf x xs → IsOneOf y (f x) → IsOneOf y (flat_map f xs)
one_flat f x y [] h k = absurd h
one_flat f x y (z ∷ xs) (inl e) k = one_left y (f z) (flat_map f xs) (subst (λ u. IsOneOf y (f u)) e k)
one_flat f x y (z ∷ xs) (inr h) k = one_right y (f z) (flat_map f xs) (one_flat f x y xs h k)

pub from_flat : {X Y : Type 0} (f : X → List Y) (y : Y) (xs : List X) → IsOneOf y (flat_map f xs) → (x : X) × IsOneOf x xs × IsOneOf y (f x)
from_flat f y [] h = absurd h
from_flat {X} f y (x ∷ xs) h = by (one_of_both y (f x) (flat_map f xs) h) (from_flat f y xs) where
  by : IsOneOf y (f x) ⊎ IsOneOf y (flat_map f xs) → (IsOneOf y (flat_map f xs) → (z : X) × IsOneOf z xs × IsOneOf y (f z))
      → (z : X) × IsOneOf z (x ∷ xs) × IsOneOf y (f z)
  by (inl here) ih = (x, inl refl, here)
  by (inr there) ih = let found = ih there in (found.0, inr found.1, found.2)

-- ---- what is true of each

pub all_one : {X : Type 0} (P : X → Type 0) (x : X) (xs : List X) → AllByRecursion P xs → IsOneOf x xs → P x
all_one P x [] a h = absurd h
all_one P x (y ∷ xs) a (inl e) = subst P (sym e) a.0
all_one P x (y ∷ xs) a (inr h) = all_one P x xs a.1 h

pub all_from : {X : Type 0} (P Q : X → Type 0) (xs : List X) → ((x : X) → P x → Q x) → AllByRecursion P xs → AllByRecursion Q xs
all_from P Q [] f a = tt
all_from P Q (x ∷ xs) f a = (f x a.0, all_from P Q xs f a.1)

pub all_append : {X : Type 0} (P : X → Type 0) (xs ys : List X) → AllByRecursion P xs → AllByRecursion P ys → AllByRecursion P (xs ++ ys)
all_append P [] ys a b = b
all_append P (x ∷ xs) ys a b = (a.0, all_append P xs ys a.1 b)

pub all_by_one : {X : Type 0} (P : X → Type 0) (xs : List X) → ((x : X) → IsOneOf x xs → P x) → AllByRecursion P xs
all_by_one P [] f = tt
all_by_one P (x ∷ xs) f = (f x (inl refl), all_by_one P xs (λ y h. f y (inr h)))

-- ---- in order

pub sorted_append : {K : Type 0} (c : K → K → Ordering) (xs ys : List K) → IsStrictlySortedBy c xs → IsStrictlySortedBy c ys
    → AllByRecursion (λ x. AllByRecursion (λ y. c x y ≡ Less) ys) xs → IsStrictlySortedBy c (xs ++ ys)
unfolding IsStrictlySortedBy
sorted_append c [] ys h k a = k
sorted_append c (x ∷ xs) ys h k a = (all_append (λ y. c x y ≡ Less) xs ys h.0 a.0, sorted_append c xs ys h.1 k a.1)

-- of lists with keys that are in order, one after another
pub sorted_flat : {K X : Type 0} (c : K → K → Ordering) (d : X → X → Ordering) (f : K → List X) (keys : List K) → IsStrictlySortedBy c keys
    → ((k : K) → IsStrictlySortedBy d (f k)) → ((k l : K) (x y : X) → c k l ≡ Less → IsOneOf x (f k) → IsOneOf y (f l) → d x y ≡ Less)
    → IsStrictlySortedBy d (flat_map f keys)
unfolding IsStrictlySortedBy
sorted_flat c d f [] h each apart = tt
sorted_flat c d f (k ∷ keys) h each apart =
    sorted_append d (f k) (flat_map f keys) (each k) (sorted_flat c d f keys h.1 each apart)
    (all_by_one (λ x. AllByRecursion (λ y. d x y ≡ Less) (flat_map f keys)) (f k) (λ x one.
    all_by_one (λ y. d x y ≡ Less) (flat_map f keys) (λ y other.
    let found = from_flat f y keys other in apart k found.0 x y (all_one (λ l. c k l ≡ Less) found.0 keys h.0 found.1) one found.2)))

pub kept_sorted : {K X : Type 0} (c : K → K → Ordering) (d : X → X → Ordering) (f : K → X) (keys : List K) → ((k l : K) → c k l ≡ Less → d (f k) (f l) ≡ Less)
    → IsStrictlySortedBy c keys → IsStrictlySortedBy d (map f keys)
unfolding IsStrictlySortedBy
kept_sorted c d f [] same h = tt
kept_sorted c d f (k ∷ keys) same h = (
  all_by_one (λ y. d (f k) y ≡ Less) (map f keys) (λ y one.
      let found = from_mapped f y keys one in ap (d (f k)) found.1 ∙ same k found.0 (all_one (λ l. c k l ≡ Less) found.0 keys h.0 found.2)),
  kept_sorted c d f keys same h.1,
)

-- two lists in order with the same elements are one
pub sorted_same : {K : Type 0} {R : K → K → Ordering} → IsTotalOrder R → (xs ys : List K) → IsStrictlySortedBy R xs → IsStrictlySortedBy R ys
    → ((x : K) → IsOneOf x xs ↔ IsOneOf x ys) → xs ≡ ys
unfolding IsStrictlySortedBy
sorted_same o [] [] s t h = refl
sorted_same o [] (y ∷ ys) s t h = absurd ((h y).1 (inl refl))
sorted_same o (x ∷ xs) [] s t h = absurd ((h x).0 (inl refl))
sorted_same {K} {R} o (x ∷ xs) (y ∷ ys) s t h =
    let first : x ≡ y = heads ((h x).0 (inl refl)) ((h y).1 (inl refl)) in
    let rest : xs ≡ ys = sorted_same o xs ys s.1 t.1 (λ z. (
      λ (one : IsOneOf z xs). behind z y ys ((h z).0 (inr one)) (λ (e : z ≡ y). itself x xs s.0 (subst (λ u. IsOneOf u xs) (e ∙ sym first) one)),
      λ (one : IsOneOf z ys). behind z x xs ((h z).1 (inr one)) (λ (e : z ≡ x). itself y ys t.0 (subst (λ u. IsOneOf u ys) (e ∙ first) one)),
    )) in
    λ i. first i ∷ rest i
  where
    never : (a b : Ordering) → a ≡ Less → b ≡ Less → a ≡ ordering_reverse b → ⊥
    never a b p q e = let f : Less ≡ Greater = sym p ∙ e ∙ ap ordering_reverse q in absurd cc

    heads : IsOneOf x (y ∷ ys) → IsOneOf y (x ∷ xs) → x ≡ y
    heads (inl e) k = e
    heads (inr one) (inl e) = sym e
    heads (inr one) (inr other) = absurd (never (R x y) (R y x) (all_one (λ z. R x z ≡ Less) y xs s.0 other) (all_one (λ z. R y z ≡ Less) x ys t.0 one) (o.antisymm x y))

    no_less : (a : Ordering) → a ≡ Equal → a ≡ Less → ⊥
    no_less a p q = let f : Equal ≡ Less = sym p ∙ q in absurd cc

    itself : (z : K) (zs : List K) → AllByRecursion (λ u. R z u ≡ Less) zs → IsOneOf z zs → ⊥
    itself z zs a one = no_less (R z z) (tied_itself o z) (all_one (λ u. R z u ≡ Less) z zs a one)

    behind : (z w : K) (ws : List K) → IsOneOf z (w ∷ ws) → (z ≡ w → ⊥) → IsOneOf z ws
    behind z w ws (inl e) apart = absurd (apart e)
    behind z w ws (inr one) apart = one
