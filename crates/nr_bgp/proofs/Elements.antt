-- What holds of the elements before one, and of it, holds of those up to it.
use Rattle.std.proofs.Common.{◌≡◌, ℕ, ◌+◌, ◌<◌, List, length, get_or, subst, ◌∙◌, arith, inl, inr}
use Rattle.std.proofs.lemmas.Bool.{cases_lt}
use Rattle.std.proofs.lemmas.List.{get_or_default}

pub all_more : {X : Type 0} (P : X → Type 0) (xs : List X) (i : ℕ) (x : X) → i < length xs → x ≡ get_or xs i x → P x → ((k : ℕ) (d : X) → k < i → P (get_or xs k d)) → (k : ℕ) (d : X) → k < i + 1 → P (get_or xs k d)
all_more P xs i x h is here below k d lt =
    elim (cases_lt k i) [
      | inl less ↦ below k d less
      | inr more ↦
          let same : k ≡ i = omega arith in
          rw same (subst P (is ∙ get_or_default xs i x d h) here)
    ]
