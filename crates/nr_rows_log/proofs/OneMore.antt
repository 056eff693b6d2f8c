-- Room for one message more.
use Rattle.std.proofs.Common.{◌≡◌, ℕ, ◌+◌, ◌^◌, ◌<◌, ◌≤◌, Bool, true, false, eqb, List, refl, sym, subst, arith}
use Rattle.std.specs.Prelude.{slice_index}
use Rattle.std.proofs.lemmas.Bool.{eqb-true}

not_most : (x : ℕ) → x < 2 ^ 64 → eqb x 18446744073709551615 ≡ false → x + 1 < 2 ^ 64
not_most x low other = grind arith

before_it : (k n : ℕ) → eqb k n ≡ false → k < n + 1 → k < n
before_it k n other below = grind arith

pub one_more : (xs : List ℕ) (n x : ℕ) → x ≡ slice_index xs n → x < 2 ^ 64 → eqb x 18446744073709551615 ≡ false
    → ((k : ℕ) → k < n → slice_index xs k + 1 < 2 ^ 64) → (k : ℕ) → k < n + 1 → slice_index xs k + 1 < 2 ^ 64
one_more xs n x is low other before k below = by (eqb k n) refl
  where
    by : (b : Bool) → eqb k n ≡ b → slice_index xs k + 1 < 2 ^ 64
    by true e = subst (λ (m : ℕ). slice_index xs m + 1 < 2 ^ 64) (sym (eqb-true k n e)) (subst (λ (m : ℕ). m + 1 < 2 ^ 64) is (not_most x low other))
    by false e = before k (before_it k n e below)
