-- BGP messages (RFC 4271, section 4; RFC 2918 for ROUTE-REFRESH), and the place of the first malformed field
-- of everything else. That a message may be longer than the 4,096 bytes of section 4.1 is a choice of this
-- project.
use Rattle.std.specs.Prelude.{ℕ, ◌+◌, Bool, ◌&&◌, ◌||◌, List, [], ◌∷◌, ◌++◌, length, replicate, Result, Ok, Err, nat_le, ◌==◌, if◌then◌else◌}
use Rattle.std.specs.List.{list_all, flat_map}
use Rattle.byteorder.specs.Endian.{big_bytes}
use Rattle.nr_spec_wire.specs.Reading.{Spot, Read, ◌>>=◌, start_of, number_at, bytes_at, part_at, wants, all_at}
use Rattle.nr_spec_bgp.specs.Prefixes.{Cidr, cidr_at, cidr_bytes, faults_at}
use Rattle.nr_spec_bgp.specs.Attributes.{AttributeBlock, block_at, is_complete}

-- what an UPDATE says
pub record Changes : Type 0 where
  pub withdrawn : List Cidr
  pub attributes : AttributeBlock
  pub announced : List Cidr

pub data Meaning : Type 0 where
  Opens : Meaning
  Updates : Changes → Meaning
  Notifies : Meaning
  KeepsAlive : Meaning
  Refreshes : Meaning

-- prefixes to the end of the bytes
abbrev pub cidrs_at : Spot → Result (List Cidr) ℕ
cidrs_at s = all_at cidr_at s

-- a part after its length, a number of two bytes: one that isn't all there is a fault at its length
abbrev pub sized_part_at : Spot → Read Spot
sized_part_at s = do
  size ← number_at 2 s
  faults_at s.at (part_at size.0 size.1)

-- UPDATE (section 4.3). Something announced without ORIGIN, AS_PATH or NEXT_HOP is a fault at the first
-- announced prefix.
unfoldable pub update_at : Bool → Spot → Result Meaning ℕ
update_at as4 s = do
  withdrawn-part ← sized_part_at s
  withdrawn ← cidrs_at withdrawn-part.0
  block-part ← sized_part_at withdrawn-part.1
  block ← block_at as4 block-part.0
  fine ← wants (length block-part.1.rest == 0 || is_complete block.list) block-part.1.at block
  announced ← cidrs_at block-part.1
  Ok (Updates (record { withdrawn = withdrawn; attributes = fine; announced = announced }))

-- OPEN (section 4.2): version, AS, hold time and identifier, and then the length of the parameters, which are
-- all that is left. The values aren't asked.
unfoldable pub open_at : ℕ → Spot → Result Meaning ℕ
open_at size s = do
  fixed ← bytes_at 9 s
  parameters ← number_at 1 fixed.1
  wants (parameters.0 + 29 == size) fixed.1.at Opens

-- the message of a type after its header, and the places of its length and of its type
unfoldable pub body_at : Bool → ℕ → ℕ → ℕ → ℕ → Spot → Result Meaning ℕ
body_at as4 size size-at kind kind-at s =
    if kind == 1 then wants (nat_le 29 size) size-at s >>= (λ body. open_at size body) else
    (if kind == 2 then wants (nat_le 23 size) size-at s >>= (λ body. update_at as4 body) else
    (if kind == 3 then wants (nat_le 21 size) size-at Notifies else
    (if kind == 4 then wants (size == 19) size-at KeepsAlive else
    (if kind == 5 then wants (nat_le 23 size) size-at Refreshes else Err kind-at))))

-- the marker of the header (section 4.1)
abbrev pub is_marker : List ℕ → Bool
is_marker bytes = list_all (λ b. b == 255) bytes

-- the header (section 4.1), whose length is that of all the bytes, and the message
unfoldable pub message_at : Bool → Spot → Result Meaning ℕ
message_at as4 s = do
  marker ← bytes_at 16 s
  ones ← wants (is_marker marker.0) s.at marker.1
  size ← number_at 2 ones
  whole ← wants (nat_le 19 size.0 && size.0 == length s.rest) ones.at size.0
  kind ← number_at 1 size.1
  body_at as4 whole ones.at kind.0 size.1.at kind.1

abbrev pub message_of : Bool → List ℕ → Result Meaning ℕ
message_of as4 raw = message_at as4 (start_of raw)

-- ---- spelling

-- the header and the body of a message
abbrev pub message_bytes : ℕ → List ℕ → List ℕ
message_bytes kind body = replicate 16 255 ++ big_bytes 2 (19 + length body) ++ kind ∷ body

abbrev pub keepalive_bytes : List ℕ
keepalive_bytes = message_bytes 4 []

-- bytes after their length, a number of two bytes
abbrev pub sized : List ℕ → List ℕ
sized bytes = big_bytes 2 (length bytes) ++ bytes

abbrev pub cidrs_bytes : List Cidr → List ℕ
cidrs_bytes cidrs = flat_map cidr_bytes cidrs

abbrev pub update_body : List Cidr → List ℕ → List Cidr → List ℕ
update_body withdrawn block announced = sized (cidrs_bytes withdrawn) ++ sized block ++ cidrs_bytes announced

abbrev pub update_bytes : List Cidr → List ℕ → List Cidr → List ℕ
update_bytes withdrawn block announced = message_bytes 2 (update_body withdrawn block announced)
