-- The questions on a route, by the type codes of its attributes (RFC 4271, section 5; RFC 1997) and by the numbers in
-- the segments of its path.
use Rattle.std.specs.Prelude.{◌≡◌, ◌≢◌, ℕ, ◌+◌, ◌<◌, ◌^◌, List, [], ◌∷◌, ◌++◌, length, Some, None}
use Rattle.byteorder.specs.Endian.{big_bytes}
use Rattle.nr_spec_bgp.specs.Paths.{Segment, path_len, first_as, last_as}
use Rattle.nr_spec_bgp.specs.Attributes.{AttributeBlock, first_of, origin_of, next_hop_of, med_of, pref_of, path_of, communities_of}

-- the answer is the number in the first attribute of that type, which has so many bytes, and 0 where there is none
pub record IsNumberOf (question : AttributeBlock → ℕ) (kind size : ℕ) : Type 0 where
  pub there : (b : AttributeBlock) (n : ℕ) → n < 256 ^ size → first_of kind b.list ≡ Some (big_bytes size n)
      → question b ≡ n
  pub absent : (b : AttributeBlock) → first_of kind b.list ≡ None → question b ≡ 0

pub record Numbers : Type 0 where
  pub origin : IsNumberOf origin_of 1 1
  pub next_hop : IsNumberOf next_hop_of 3 4
  pub med : IsNumberOf med_of 4 4
  pub pref : IsNumberOf pref_of 5 4

abbrev pub sequence : List ℕ → Segment
sequence numbers = record { kind = 2; numbers = numbers }

-- the first and the last number of a path, 0 where no AS_SEQUENCE stands there
pub record Ends : Type 0 where
  pub first : (n : ℕ) (numbers : List ℕ) (path : List Segment) → first_as (sequence (n ∷ numbers) ∷ path) ≡ n
  pub no_first : (s : Segment) (path : List Segment) → s.kind ≢ 2 → first_as (s ∷ path) ≡ 0
  pub last : (n : ℕ) (numbers : List ℕ) (path : List Segment) → last_as (path ++ sequence (numbers ++ n ∷ []) ∷ []) ≡ n
  pub no_last : (s : Segment) (path : List Segment) → s.kind ≢ 2 → last_as (path ++ s ∷ []) ≡ 0
  pub none : (first_as [] ≡ 0) × (last_as [] ≡ 0)

-- An AS_SEQUENCE counts its numbers, an AS_SET one, and a segment of a confederation none.
pub record Counts : Type 0 where
  pub sequence_ : (numbers : List ℕ) (path : List Segment) → path_len (sequence numbers ∷ path)
      ≡ length numbers + path_len path
  pub set : (numbers : List ℕ) (path : List Segment) → path_len (record { kind = 1; numbers = numbers } ∷ path)
      ≡ 1 + path_len path
  pub other : (s : Segment) (path : List Segment) → s.kind ≢ 1 → s.kind ≢ 2 → path_len (s ∷ path) ≡ path_len path
  pub none : path_len [] ≡ 0

-- A route without AS_PATH has the empty path, and one without COMMUNITIES none.
pub record Absent : Type 0 where
  pub path : (b : AttributeBlock) → first_of 2 b.list ≡ None → path_of b ≡ []
  pub communities : (b : AttributeBlock) → first_of 8 b.list ≡ None → communities_of b ≡ []
