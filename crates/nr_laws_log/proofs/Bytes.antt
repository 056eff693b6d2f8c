-- The bytes of the number that bytes stand for are these bytes.
use Rattle.std.proofs.Common.{◌/◌, ◌%◌, ◌≡◌, ℕ, zero, suc, ◌+◌, ◌*◌, ◌^◌, ◌<◌, ◌≤◌, List, [], ◌∷◌, length, take, refl, sym, ap, ◌∙◌, arith}
use Rattle.std.proofs.Math.Nat.{div-one, mod-eq_of_lt, mul-add-div_right, mul-add-mod_self_right, mul_assoc, one-le-pow, pow-succ'}
use Rattle.std.proofs.lemmas.Nat.{div-mul-add}
use Rattle.std.specs.Int.{byte_at, bytes_high_first}
use Rattle.byteorder.specs.Endian.{big_from}
use Rattle.byteorder.specs.Numbers.{big_from-cons, big_from-lt}
use Rattle.nr_spec_wire.specs.Reading.{IsBytes}

byte_at-pow : (k x : ℕ) → byte_at k x ≡ x / 256 ^ k % 256
byte_at-pow zero x = ap (λ (y : ℕ). y % 256) (sym (div-one x))
byte_at-pow (suc k) x = refl

pow_pos256 : (n : ℕ) → zero < 256 ^ n
pow_pos256 n = let h = one-le-pow n 256 (omega arith) in omega arith

-- what stands above the lowest n bytes doesn't tell in them
high_part : (n k r : ℕ) → bytes_high_first n (k * 256 ^ n + r) ≡ bytes_high_first n r
high_part zero k r = refl
high_part (suc n) k r =
    let split : k * 256 ^ suc n + r ≡ k * 256 * 256 ^ n + r =
    ap (λ (p : ℕ). k * p + r) (pow-succ' 256 n) ∙ ap (λ (p : ℕ). p + r) (sym (mul_assoc k 256 (256 ^ n))) in
    let head : byte_at n (k * 256 * 256 ^ n + r) ≡ byte_at n r =
    byte_at-pow n (k * 256 * 256 ^ n + r) ∙ ap (λ (y : ℕ). y % 256) (mul-add-div_right (pow_pos256 n) (k * 256) r) ∙ mul-add-mod_self_right k 256 (r / 256 ^ n) ∙ sym (byte_at-pow n r) in
    let tail : bytes_high_first n (k * 256 * 256 ^ n + r) ≡ bytes_high_first n r = high_part n (k * 256) r in
    ap (bytes_high_first (suc n)) split ∙ rw (head, tail) refl

IsBytes-rest : (b : ℕ) (bytes : List ℕ) → IsBytes (b ∷ bytes) → IsBytes bytes
IsBytes-rest b bytes h i = h (suc i)

pub bytes_of_number : (n : ℕ) (bytes : List ℕ) → n ≤ length bytes → IsBytes bytes → bytes_high_first n (big_from 0 n bytes) ≡ take n bytes
bytes_of_number zero bytes long fits = refl
bytes_of_number (suc n) [] long fits = absurd (omega arith)
bytes_of_number (suc n) (b ∷ bytes) long fits =
    let rest_fits = IsBytes-rest b bytes fits in
    let moved : big_from 1 n (b ∷ bytes) ≡ big_from 0 n bytes = big_from-cons 0 n b bytes in
    let low : big_from 0 n bytes < 256 ^ n = big_from-lt 0 n bytes rest_fits in
    let first : b < 256 = fits 0 in
    let head : byte_at n (b * 256 ^ n + big_from 0 n bytes) ≡ b =
    byte_at-pow n (b * 256 ^ n + big_from 0 n bytes) ∙ ap (λ (y : ℕ). y % 256) (div-mul-add b (256 ^ n) (big_from 0 n bytes) low) ∙ mod-eq_of_lt first in
    let tail : bytes_high_first n (b * 256 ^ n + big_from 0 n bytes) ≡ take n bytes = high_part n b (big_from 0 n bytes) ∙ bytes_of_number n bytes (omega arith) rest_fits in
    rw (moved, head, tail) refl
