-- AS_PATH: the networks that a route has gone through (RFC 4271, section 4.3 b and section 5.1.2; RFC 6793
-- for numbers of four bytes; RFC 5065 for confederations).
use Rattle.std.specs.Prelude.{ℕ, zero, suc, ◌*◌, ◌/◌, Bool, true, false, ◌&&◌, List, [], ◌∷◌, length, drop, Result, Ok, nat_le, ◌==◌, if◌then◌else◌, sum_by}
use Rattle.std.specs.List.{list_any, flat_map}
use Rattle.std.specs.Result.{result_unwrap_or}
use Rattle.byteorder.specs.Endian.{big_number}
use Rattle.nr_spec_wire.specs.Reading.{Spot, Read, ◌>>=◌, start_of, number_at, bytes_at, wants, all_at}

pub record Segment : Type 0 where
  pub kind : ℕ  -- 1 AS_SET, 2 AS_SEQUENCE, 3 AS_CONFED_SEQUENCE, 4 AS_CONFED_SET
  pub numbers : List ℕ

-- the numbers of that many bytes each, one after another
abbrev pub counted_numbers : ℕ → ℕ → List ℕ → List ℕ
counted_numbers zero size bytes = []
counted_numbers (suc n) size bytes = big_number size bytes ∷ counted_numbers n size (drop size bytes)

abbrev pub numbers_in : ℕ → List ℕ → List ℕ
numbers_in size bytes = counted_numbers (length bytes / size) size bytes

-- how many bytes a network's number has
abbrev pub as_size : Bool → ℕ
as_size as4 = if as4 then 4 else 2

-- a segment: its type, how many numbers it has, of which there is one at least, and the numbers
unfoldable pub segment_at : Bool → Spot → Read Segment
segment_at as4 s = do
  kind ← number_at 1 s
  known ← wants (nat_le 1 kind.0 && nat_le kind.0 4) s.at kind.0
  count ← number_at 1 kind.1
  some ← wants (nat_le 1 count.0) kind.1.at count.0
  bytes ← bytes_at (some * as_size as4) count.1
  Ok (record { kind = known; numbers = numbers_in (as_size as4) bytes.0 }, bytes.1)

-- the segments from a spot to the end of its bytes
abbrev pub segments_at : Bool → Spot → Result (List Segment) ℕ
segments_at as4 s = all_at (segment_at as4) s

-- the segments of a value, which is in its grammar
abbrev pub segments_in : Bool → List ℕ → List Segment
segments_in as4 value = result_unwrap_or (segments_at as4 (start_of value)) []

-- ---- questions on a path. Which number is the first and which the last are choices of this project, and so
-- ---- is that the length follows both RFCs named there.

-- a number of a path, with the type of its segment, and whether it is the segment's first
pub record Hop : Type 0 where
  pub segment : ℕ
  pub starts : Bool
  pub asn : ℕ

abbrev pub hops_from : ℕ → Bool → List ℕ → List Hop
hops_from kind starts [] = []
hops_from kind starts (n ∷ numbers) = record { segment = kind; starts = starts; asn = n } ∷ hops_from kind false numbers

abbrev pub hops_of : Segment → List Hop
hops_of s = hops_from s.kind true s.numbers

-- every number of a path, in order
abbrev pub hops : List Segment → List Hop
hops path = flat_map hops_of path

-- An AS_SEQUENCE counts its numbers and an AS_SET counts one (RFC 4271, section 9.1.2.2); the segments of a
-- confederation count nothing (RFC 5065, section 5.3).
abbrev pub segment_len : Segment → ℕ
segment_len s = if s.kind == 2 then length s.numbers else (if s.kind == 1 then 1 else 0)

abbrev pub path_len : List Segment → ℕ
path_len path = sum_by segment_len path

abbrev pub first_number : List ℕ → ℕ
first_number [] = 0
first_number (n ∷ numbers) = n

abbrev pub last_number : List ℕ → ℕ
last_number [] = 0
last_number (n ∷ []) = n
last_number (n ∷ m ∷ numbers) = last_number (m ∷ numbers)

-- the first number of an AS_SEQUENCE that stands first, else 0
abbrev pub head_of : Segment → ℕ
head_of s = if s.kind == 2 then first_number s.numbers else 0

abbrev pub first_as : List Segment → ℕ
first_as [] = 0
first_as (s ∷ path) = head_of s

-- the last number of an AS_SEQUENCE that stands last, else 0
abbrev pub last_of : Segment → ℕ
last_of s = if s.kind == 2 then last_number s.numbers else 0

abbrev pub last_as : List Segment → ℕ
last_as [] = 0
last_as (s ∷ []) = last_of s
last_as (s ∷ t ∷ path) = last_as (t ∷ path)

-- whether the number stands in some segment
abbrev pub crosses : ℕ → List Segment → Bool
crosses asn path = list_any (λ s. list_any (λ n. n == asn) s.numbers) path
