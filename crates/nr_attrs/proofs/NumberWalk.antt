-- Numbers one after another.
use Rattle.std.proofs.Common.{◌≡◌, ℕ, zero, suc, ◌-◌, ◌/◌, ◌≤◌, ◌<◌, Bool, true, false, List, [], ◌∷◌, length, drop, refl, arith, length-drop}
use Rattle.byteorder.specs.Endian.{big_number}
use Rattle.nr_spec_bgp.specs.Paths.{as_size, counted_numbers, numbers_in, last_number}

counted_step : (n size : ℕ) (bytes : List ℕ) → 0 < n → counted_numbers n size bytes ≡ big_number size bytes ∷ counted_numbers (n - 1) size (drop size bytes)
counted_step zero size bytes some = absurd (omega arith)
counted_step (suc n) size bytes some = let e : suc n - 1 ≡ n = omega arith in rw e refl

pub numbers_step : (wide : Bool) (bytes : List ℕ) → as_size wide ≤ length bytes → numbers_in (as_size wide) bytes ≡ big_number (as_size wide) bytes ∷ numbers_in (as_size wide) (drop (as_size wide) bytes)
numbers_step true bytes long =
    let e : length bytes / 4 - 1 ≡ length (drop 4 bytes) / 4 = omega (arith, length-drop 4 bytes) in
    rw (← e) (counted_step (length bytes / 4) 4 bytes (omega arith))
numbers_step false bytes long =
    let e : length bytes / 2 - 1 ≡ length (drop 2 bytes) / 2 = omega (arith, length-drop 2 bytes) in
    rw (← e) (counted_step (length bytes / 2) 2 bytes (omega arith))

pub numbers_end : (wide : Bool) (bytes : List ℕ) → length bytes < as_size wide → numbers_in (as_size wide) bytes ≡ []
numbers_end true bytes short = let e : length bytes / 4 ≡ 0 = omega arith in rw e refl
numbers_end false bytes short = let e : length bytes / 2 ≡ 0 = omega arith in rw e refl

-- the last number, or what stands before where there is none
abbrev pub last_or : ℕ → List ℕ → ℕ
last_or before [] = before
last_or before (n ∷ numbers) = last_or n numbers

last_or_of_some : (before n : ℕ) (numbers : List ℕ) → last_or before (n ∷ numbers) ≡ last_number (n ∷ numbers)
last_or_of_some before n [] = refl
last_or_of_some before n (m ∷ numbers) = last_or_of_some n m numbers

pub last_or_zero : (numbers : List ℕ) → last_or 0 numbers ≡ last_number numbers
last_or_zero [] = refl
last_or_zero (n ∷ numbers) = last_or_of_some 0 n numbers
