-- One step of reading.
use Rattle.std.proofs.Common.{◌≡◌, ℕ, ◌+◌, ◌≤◌, Bool, true, false, cond, ltb, List, length, take, Result, Ok, Err, refl, sym, arith, length-drop}
use Rattle.std.proofs.lemmas.Bool.{ltb-false}
use Rattle.byteorder.specs.Endian.{big_number}
use Rattle.nr_spec_wire.specs.Reading.{Spot, ◌>>=◌, past, number_at, bytes_at, wants}
use Rattle.nr_spec_bgp.specs.Prefixes.{faults_at}

-- the value of a step that didn't fail
pub bind_ok : {A B : Type 0} (r : Result A ℕ) (f : A → Result B ℕ) (y : B) → (r >>= f) ≡ Ok y → (x : A) × (r ≡ Ok x) × (f x ≡ Ok y)
bind_ok (Ok x) f y e = (x, refl, e)
bind_ok (Err d) f y e = absurd cc

abbrev done : {A : Type 0} → A → Result A ℕ
done x = Ok x

pub ok_is : {A : Type 0} (x y : A) → done x ≡ done y → x ≡ y
ok_is x y e = cc

-- a test that didn't fail
pub wants_ok : {A : Type 0} (b : Bool) (place : ℕ) (x y : A) → wants b place x ≡ Ok y → (b ≡ true) × (x ≡ y)
wants_ok true place x y e = (refl, ok_is x y e)
wants_ok false place x y e = absurd cc

pub faults_ok : {A : Type 0} (place : ℕ) (r : Result A ℕ) (y : A) → faults_at place r ≡ Ok y → r ≡ Ok y
faults_ok place (Ok x) y e = e
faults_ok place (Err d) y e = absurd cc

guard_ok : {A : Type 0} (b : Bool) (d : ℕ) (x y : A) → cond b (Err d) (Ok x) ≡ Ok y → (b ≡ false) × (x ≡ y)
guard_ok true d x y e = absurd cc
guard_ok false d x y e = (refl, ok_is x y e)

-- a field takes its bytes
pub number_takes : (n : ℕ) (s : Spot) (x : ℕ × Spot) → number_at n s ≡ Ok x → (n ≤ length s.rest) × (x ≡ (big_number n s.rest, past n s))
number_takes n s x e = let g = guard_ok (ltb (length s.rest) n) s.at (big_number n s.rest, past n s) x e in (ltb-false _ _ g.0, sym g.1)

pub bytes_takes : (n : ℕ) (s : Spot) (x : List ℕ × Spot) → bytes_at n s ≡ Ok x → (n ≤ length s.rest) × (x ≡ (take n s.rest, past n s))
bytes_takes n s x e = let g = guard_ok (ltb (length s.rest) n) s.at (take n s.rest, past n s) x e in (ltb-false _ _ g.0, sym g.1)

-- what is left after a field
pub number_leaves : (n : ℕ) (s : Spot) (x : ℕ × Spot) → number_at n s ≡ Ok x → length x.1.rest + n ≡ length s.rest
number_leaves n s x e = let t = number_takes n s x e in rw t.1 (omega (arith, length-drop n s.rest))

pub bytes_leaves : (n : ℕ) (s : Spot) (x : List ℕ × Spot) → bytes_at n s ≡ Ok x → length x.1.rest + n ≡ length s.rest
bytes_leaves n s x e = let t = bytes_takes n s x e in rw t.1 (omega (arith, length-drop n s.rest))
