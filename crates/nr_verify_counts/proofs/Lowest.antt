-- Searching upwards for the lowest that passes.
use Rattle.std.proofs.Common.{◌≡◌, ℕ, suc, ◌+◌, ◌-◌, ◌<◌, ◌≤◌, Bool, true, false, cond, Option, Some, None, ap, sym, ◌∙◌, arith}
use Rattle.std.specs.List.{find, range_with_len}
use Rattle.nr_spec_counts.specs.Causes.{lowest}

-- the first from n on
abbrev pub from : ℕ → (ℕ → Bool) → ℕ → Option ℕ
from bound test n = find test (range_with_len n (bound - n))

pub from_start : (bound : ℕ) (test : ℕ → Bool) → from bound test 0 ≡ lowest bound test
unfolding lowest
from_start bound test = let e : bound - 0 ≡ bound = omega arith in ap (λ k. find test (range_with_len 0 k)) e

from_next : (bound : ℕ) (test : ℕ → Bool) (n : ℕ) → n < bound → from bound test n ≡ cond (test n) (Some n) (from bound test (n + 1))
from_next bound test n below = let e : bound - n ≡ suc (bound - (n + 1)) = omega arith in ap (λ k. find test (range_with_len n k)) e

pub passed_over : (bound : ℕ) (test : ℕ → Bool) (n : ℕ) (found : Option ℕ) → n < bound → test n ≡ false → from bound test n ≡ found → from bound test (n + 1) ≡ found
passed_over bound test n found below fails is = sym (from_next bound test n below ∙ ap (λ b. cond b (Some n) (from bound test (n + 1))) fails) ∙ is

pub found_here : (bound : ℕ) (test : ℕ → Bool) (n : ℕ) (found : Option ℕ) → n < bound → test n ≡ true → from bound test n ≡ found → Some n ≡ found
found_here bound test n found below passes is = sym (from_next bound test n below ∙ ap (λ b. cond b (Some n) (from bound test (n + 1))) passes) ∙ is

pub found_nowhere : (bound : ℕ) (test : ℕ → Bool) (n : ℕ) (found : Option ℕ) → bound ≤ n → from bound test n ≡ found → None ≡ found
found_nowhere bound test n found past is = let e : 0 ≡ bound - n = omega arith in ap (λ k. find test (range_with_len n k)) e ∙ is
