-- The grammar of the values of path attributes, by cases on their bytes (RFC 4271, sections 4.3 and 5; RFC 6793 for AS
-- numbers of four bytes; RFC 5065 for confederations; RFC 1997 for communities). It says which bytes are a value and
-- what the value is, and nothing of how the bytes are read.
use Rattle.std.specs.Prelude.{◌≡◌, ℕ, ◌≤◌, Bool, true, false, List, [], ◌∷◌, ◌++◌, length, Any, ◌⊎◌}
use Rattle.byteorder.specs.Endian.{big_number}
use Rattle.nr_spec_bgp.specs.Paths.{Segment}
use Rattle.nr_spec_bgp.specs.Attributes.{Attribute}

-- a field of that many bytes which holds the number
pub record Holds (size n : ℕ) (field : List ℕ) : Type 0 where
  pub len : length field ≡ size
  pub value : big_number size field ≡ n

-- numbers of that many bytes each, one after another, and nothing else
abbrev pub AreNumbers : ℕ → List ℕ → List ℕ → Type 0
AreNumbers size bytes [] = bytes ≡ []
AreNumbers size bytes (n ∷ numbers) =
    (field : List ℕ) × (more : List ℕ) × (bytes ≡ field ++ more) × Holds size n field × AreNumbers size more numbers

-- how many bytes an AS number has: four (RFC 6793), or two (RFC 4271)
abbrev pub as_width : Bool → ℕ
as_width true = 4
as_width false = 2

-- a segment in front of the bytes, and what stands after the segment: the type is 1 to 4, there are one or more numbers
pub record IsSegmentIn (as4 : Bool) (bytes : List ℕ) (s : Segment) (more : List ℕ) : Type 0 where
  pub part : List ℕ
  pub spelled : bytes ≡ s.kind ∷ length s.numbers ∷ (part ++ more)
  pub least : 1 ≤ s.kind
  pub most : s.kind ≤ 4
  pub some : 1 ≤ length s.numbers
  pub numbers : AreNumbers (as_width as4) part s.numbers

-- AS_PATH: segments one after another, and nothing else
abbrev pub AreSegments : Bool → List ℕ → List Segment → Type 0
AreSegments as4 bytes [] = bytes ≡ []
AreSegments as4 bytes (s ∷ path) = (more : List ℕ) × IsSegmentIn as4 bytes s more × AreSegments as4 more path

-- what the value of each known type is; a value of another type may be any bytes
pub record IsValueOf (as4 : Bool) (kind : ℕ) (value : List ℕ) : Type 0 where
  pub origin : kind ≡ 1 → (code : ℕ) × (value ≡ code ∷ []) × (code ≤ 2)
  pub as_path : kind ≡ 2 → (path : List Segment) × AreSegments as4 value path
  pub next_hop : kind ≡ 3 → length value ≡ 4
  pub multi_exit_disc : kind ≡ 4 → length value ≡ 4
  pub local_pref : kind ≡ 5 → length value ≡ 4
  pub communities : kind ≡ 8 → (numbers : List ℕ) × AreNumbers 4 value numbers

-- an attribute of the type is among these
abbrev pub Has : ℕ → List Attribute → Type 0
Has kind list = Any (λ a. a.kind ≡ kind) list

-- The first attribute of a type has a value of that type; a later one may have any.
abbrev pub MayFollow : Bool → List Attribute → Attribute → Type 0
MayFollow as4 before a = Has a.kind before ⊎ IsValueOf as4 a.kind a.value

-- the attributes that every announced route has (RFC 4271, section 5): ORIGIN, AS_PATH and NEXT_HOP
pub record AreComplete (list : List Attribute) : Type 0 where
  pub origin : Has 1 list
  pub as_path : Has 2 list
  pub next_hop : Has 3 list
