-- Records one behind another, and where an offset stands among them.
use Rattle.std.specs.Prelude.{ℕ, zero, suc, ◌+◌, ◌-◌, ◌*◌, ◌≤◌, Bool, ◌||◌, nat_lt, if◌then◌else◌, List, drop}
use Rattle.byteorder.specs.Endian.{big_number}
use Rattle.nr_fields.specs.declared.records.Shape.{Shape}
use Rattle.nr_fields.specs.declared.records.Spot.{Spot}

-- a number of so many bytes, behind some others
unfoldable pub number_behind : ℕ → ℕ → List ℕ → ℕ
number_behind start width bytes = big_number width (drop start bytes)

-- how many bytes a record has: its front, and as many units as its front says
abbrev pub record_size : Shape → List ℕ → ℕ
record_size s bytes = s.front + s.unit * number_behind s.start s.width bytes

-- an offset stands in the first record
abbrev pub is_in_record : Shape → List ℕ → ℕ → Bool
is_in_record s bytes at = nat_lt at s.front || nat_lt at (record_size s bytes)

-- where an offset stands among at most so many records: how many begin there or behind it, and the offset in the first
-- of these, or behind the last record
unfoldable pub spot_among : Shape → ℕ → List ℕ → ℕ → Spot
spot_among s zero bytes at = record { left = 0; at = at }
spot_among s (suc n) bytes at =
    if is_in_record s bytes at
    then record { left = suc n; at = at }
    else spot_among s n (drop (record_size s bytes) bytes) (at - record_size s bytes)

-- the length of a record stands in its front
pub record IsShape (s : Shape) : Type 0 where
  pub least : 1 ≤ s.width
  pub most : s.width ≤ 4
  pub inside : s.start + s.width ≤ s.front
  pub front : s.front ≤ 65535
  pub unit : s.unit ≤ 32
