-- Names among others.
use Rattle.std.proofs.Common.{ℕ, ◌<◌, zero, suc, List, [], ◌∷◌, ◌++◌, length, take, refl, inl, inr, ◌⊎◌, ⊎_elim, arith}
use Rattle.nr_spec_plans.specs.Laws.{IsAmong}

-- a name among others, and one after them
pub among_first : (name : List ℕ) (names others : List (List ℕ)) → IsAmong name names → IsAmong name (names ++ others)
among_first name [] others is = absurd is
among_first name (first ∷ names) others (inl is) = inl is
among_first name (first ∷ names) others (inr is) = inr (among_first name names others is)

pub among_last : (name : List ℕ) (names : List (List ℕ)) → IsAmong name (names ++ name ∷ [])
among_last name [] = inl refl
among_last name (first ∷ names) = inr (among_last name names)

pub among_either : (name : List ℕ) (names others : List (List ℕ)) → IsAmong name (names ++ others) → IsAmong name names ⊎ IsAmong name others
among_either name [] others is = inr is
among_either name (first ∷ names) others (inl is) = inl (inl is)
among_either name (first ∷ names) others (inr is) = ⊎_elim (λ w. inl (inr w)) (λ w. inr w) (among_either name names others is)

-- the first names of a list, where there are more of them than stand before
pub among_taken : (n : ℕ) (before : List (List ℕ)) (name : List ℕ) (others : List (List ℕ)) → length before < n → IsAmong name (take n (before ++ name ∷ others))
among_taken zero before name others lt = absurd (omega arith)
among_taken (suc n) [] name others lt = inl refl
among_taken (suc n) (first ∷ before) name others lt = inr (among_taken n before name others (omega arith))
