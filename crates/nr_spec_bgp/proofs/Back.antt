-- A field that is spelled is read again.
use Rattle.std.proofs.Common.{◌≡◌, ℕ, ◌+◌, ◌*◌, ◌^◌, ◌<◌, Bool, true, false, ltb, List, ◌∷◌, ◌++◌, length, Result, Ok, refl, ap, ◌∙◌, arith, length-append}
use Rattle.std.proofs.lemmas.Bool.{le-ltb}
use Rattle.std.proofs.lemmas.List.{take_at, drop_at}
use Rattle.byteorder.specs.Endian.{big_bytes}
use Rattle.byteorder.specs.Numbers.{big_number-reads_back, length-bytes_high_first}
use Rattle.nr_spec_wire.specs.Reading.{Spot, ◌>>=◌, number_at, bytes_at, part_at, wants}

abbrev pub spot : ℕ → List ℕ → Spot
spot at rest = record { at = at; rest = rest }

enough : (xs more : List ℕ) (n : ℕ) → length xs ≡ n → ltb (length (xs ++ more)) n ≡ false
enough xs more n e = le-ltb _ _ (omega (arith, length-append xs more))

pub number_back : (n x at : ℕ) (more : List ℕ) → x < 256 ^ n → number_at n (spot at (big_bytes n x ++ more)) ≡ Ok (x, spot (at + n) more)
number_back n x at more small =
    let len = length-bytes_high_first n x in
    rw (enough (big_bytes n x) more n len, big_number-reads_back n x more small, drop_at (big_bytes n x) more n len) refl

pub bytes_back : (n at : ℕ) (xs more : List ℕ) → length xs ≡ n → bytes_at n (spot at (xs ++ more)) ≡ Ok (xs, spot (at + n) more)
bytes_back n at xs more len = rw (enough xs more n len, take_at xs more n len, drop_at xs more n len) refl

pub part_back : (n at : ℕ) (xs more : List ℕ) → length xs ≡ n → part_at n (spot at (xs ++ more)) ≡ Ok (spot at xs, spot (at + n) more)
part_back n at xs more len = rw (enough xs more n len, take_at xs more n len, drop_at xs more n len) refl

pub then_back : {A B : Type 0} (r : Result A ℕ) (f : A → Result B ℕ) (x : A) (y : Result B ℕ) → r ≡ Ok x → f x ≡ y → (r >>= f) ≡ y
then_back r f x y e g = ap (λ q. q >>= f) e ∙ g

pub byte_back : (b at : ℕ) (more : List ℕ) → number_at 1 (spot at (b ∷ more)) ≡ Ok (b, spot (at + 1) more)
byte_back b at more =
    let some : ltb (length (b ∷ more)) 1 ≡ false = le-ltb (length (b ∷ more)) 1 (omega arith) in
    let value : b * 1 + 0 ≡ b = omega arith in
    rw (some, value) refl

pub wants_back : {A : Type 0} (b : Bool) (place : ℕ) (x : A) → b ≡ true → wants b place x ≡ Ok x
wants_back true place x e = refl
wants_back false place x e = absurd cc
