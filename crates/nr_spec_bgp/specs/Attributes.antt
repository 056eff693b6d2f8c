-- Path attributes (RFC 4271, section 4.3 and section 5; RFC 1997 for COMMUNITIES).
use Rattle.std.specs.Prelude.{ℕ, zero, suc, ◌%◌, Bool, true, ◌&&◌, ◌||◌, List, [], ◌∷◌, ◌++◌, length, Option, Some, None, is_some, Result, Ok, is_ok, nat_le, ◌==◌, if◌then◌else◌, bit_and}
use Rattle.std.specs.List.{list_any}
use Rattle.byteorder.specs.Endian.{big_number}
use Rattle.nr_spec_wire.specs.Reading.{Spot, Read, ◌>>=◌, start_of, number_at, bytes_at, wants}
use Rattle.nr_spec_bgp.specs.Prefixes.{faults_at}
use Rattle.nr_spec_bgp.specs.Paths.{Segment, segments_at, segments_in, numbers_in}

pub record Attribute : Type 0 where
  pub kind : ℕ  -- the type code
  pub value : List ℕ

-- an attribute, and the place of its value's first byte
pub record Placed : Type 0 where
  pub what : Attribute
  pub at : ℕ

-- The length has two bytes where the flag Extended Length, 0x10, is set. No other flag is asked.
abbrev pub size_bytes : ℕ → ℕ
size_bytes flags = if bit_and flags 16 == 0 then 1 else 2

unfoldable pub fields_at : Spot → Read Placed
fields_at s = do
  flags ← number_at 1 s
  kind ← number_at 1 flags.1
  size ← number_at (size_bytes flags.0) kind.1
  value ← bytes_at size.0 size.1
  Ok (record { what = record { kind = kind.0; value = value.0 }; at = size.1.at }, value.1)

-- an attribute that doesn't fit is a fault at its flags
abbrev pub attribute_at : Spot → Read Placed
attribute_at s = faults_at s.at (fields_at s)

-- ---- what a value has to be

-- ORIGIN: one byte, 0 IGP, 1 EGP or 2 INCOMPLETE
abbrev pub is_origin : List ℕ → Bool
is_origin value = length value == 1 && nat_le (big_number 1 value) 2

-- AS_PATH: segments to the end
abbrev pub is_path : Bool → List ℕ → Bool
is_path as4 value = is_ok (segments_at as4 (start_of value))

-- NEXT_HOP, MULTI_EXIT_DISC and LOCAL_PREF: four bytes
abbrev pub is_word : List ℕ → Bool
is_word value = length value == 4

-- COMMUNITIES: any number of four-byte values
abbrev pub is_words : List ℕ → Bool
is_words value = length value % 4 == 0

-- any other type is kept unread
abbrev pub is_value : Bool → ℕ → List ℕ → Bool
is_value as4 kind value =
    if kind == 1 then is_origin value else
    (if kind == 2 then is_path as4 value else
    (if kind == 3 then is_word value else
    (if kind == 4 then is_word value else
    (if kind == 5 then is_word value else
    (if kind == 8 then is_words value else true)))))

-- ---- a block: attributes to the end of its bytes

-- the value of the first attribute of a type
abbrev pub first_of : ℕ → List Attribute → Option (List ℕ)
first_of kind [] = None
first_of kind (a ∷ list) = if a.kind == kind then Some a.value else first_of kind list

-- The first attribute of a type has to have a value of that type; a later one is kept unread. That the
-- first counts is a choice of this project.
abbrev pub may_follow : Bool → List Attribute → Attribute → Bool
may_follow as4 before a = is_some (first_of a.kind before) || is_value as4 a.kind a.value

-- The attributes, with those that stand before. Each takes a byte or more, so the number of bytes is
-- fuel enough.
unfoldable pub attributes_from : ℕ → Bool → List Attribute → Spot → Result (List Attribute) ℕ
attributes_from zero as4 before s = Ok before
attributes_from (suc fuel) as4 before s = if length s.rest == 0 then Ok before else (do
  a ← attribute_at s
  next ← wants (may_follow as4 before a.0.what) a.0.at a.0.what
  attributes_from fuel as4 (before ++ next ∷ []) a.1)

abbrev pub attributes_at : Bool → Spot → Result (List Attribute) ℕ
attributes_at as4 s = attributes_from (length s.rest) as4 [] s

-- the attributes of a block by itself
abbrev pub attributes_in : Bool → List ℕ → Result (List Attribute) ℕ
attributes_in as4 block = attributes_at as4 (start_of block)

-- a block that is in the grammar: its bytes, whether its AS numbers have four bytes, and what it reads as
pub record AttributeBlock : Type 0 where
  pub block : List ℕ
  pub as4 : Bool
  pub list : List Attribute

unfoldable pub block_at : Bool → Spot → Result AttributeBlock ℕ
block_at as4 s = do
  list ← attributes_at as4 s
  Ok (record { block = s.rest; as4 = as4; list = list })

-- ---- questions. An absent attribute reads as 0, as an empty path or as no communities, which for
-- ---- MULTI_EXIT_DISC and LOCAL_PREF is a choice of this project.

-- the number in the value
abbrev pub number_of : ℕ → Option (List ℕ) → ℕ
number_of size None = 0
number_of size (Some value) = big_number size value

-- ORIGIN (section 5.1.1)
abbrev pub origin_of : AttributeBlock → ℕ
origin_of b = number_of 1 (first_of 1 b.list)

-- NEXT_HOP (section 5.1.3)
abbrev pub next_hop_of : AttributeBlock → ℕ
next_hop_of b = number_of 4 (first_of 3 b.list)

-- MULTI_EXIT_DISC (section 5.1.4)
abbrev pub med_of : AttributeBlock → ℕ
med_of b = number_of 4 (first_of 4 b.list)

-- LOCAL_PREF (section 5.1.5)
abbrev pub pref_of : AttributeBlock → ℕ
pref_of b = number_of 4 (first_of 5 b.list)

-- AS_PATH (section 5.1.2)
abbrev pub path_in : Bool → Option (List ℕ) → List Segment
path_in as4 None = []
path_in as4 (Some value) = segments_in as4 value

abbrev pub path_of : AttributeBlock → List Segment
path_of b = path_in b.as4 (first_of 2 b.list)

-- COMMUNITIES (RFC 1997)
abbrev pub communities_in : Option (List ℕ) → List ℕ
communities_in None = []
communities_in (Some value) = numbers_in 4 value

abbrev pub communities_of : AttributeBlock → List ℕ
communities_of b = communities_in (first_of 8 b.list)

abbrev pub has_community : ℕ → AttributeBlock → Bool
has_community community b = list_any (λ c. c == community) (communities_of b)

-- the attributes that every announced route has (section 5, well-known mandatory)
abbrev pub is_complete : List Attribute → Bool
is_complete list = is_some (first_of 1 list) && is_some (first_of 2 list) && is_some (first_of 3 list)
