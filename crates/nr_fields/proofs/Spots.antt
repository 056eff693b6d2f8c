-- Past a whole record.
use Rattle.std.proofs.Common.{arith, true, ◌≡◌, ◌≤◌, ◌<◌, ◌-◌, ℕ, zero, suc, false, List, drop, refl}
use Rattle.nr_fields.specs.Records.{is_in_record, record_size, spot_among}
use Rattle.nr_fields.specs.declared.records.Shape.{Shape}

-- a place that isn't in the first record is behind it
pub behind : (s : Shape) (bytes : List ℕ) (at : ℕ) → is_in_record s bytes at ≡ false → record_size s bytes ≤ at
behind s bytes at e = grind arith

-- and stands among the others
pub step : (s : Shape) (n : ℕ) (bytes : List ℕ) (at : ℕ) → 0 < n → is_in_record s bytes at ≡ false → spot_among s n bytes at ≡ spot_among s (n - 1) (drop (record_size s bytes) bytes) (at - record_size s bytes)
unfolding spot_among
step s zero bytes at h e = absurd (omega (arith, h))
step s (suc n) bytes at h e = let less : suc n - 1 ≡ n = omega arith in rw (less, e) refl

-- a place in the first record
pub here : (s : Shape) (n : ℕ) (bytes : List ℕ) (at : ℕ) → 0 < n → is_in_record s bytes at ≡ true → spot_among s n bytes at ≡ record { left = n; at = at }
unfolding spot_among
here s zero bytes at h e = absurd (omega (arith, h))
here s (suc n) bytes at h e = rw e refl
