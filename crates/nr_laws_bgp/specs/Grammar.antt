-- The grammar of BGP messages, by cases on their bytes (RFC 4271, section 4). It says which bytes are a
-- message and what it means, and nothing of how it is read.
use Rattle.std.specs.Prelude.{◌≡◌, ℕ, ◌≤◌, ◌/◌, ◌%◌, Bool, List, [], ◌∷◌, ◌++◌, length, replicate, ◌⊎◌}
use Rattle.nr_spec_bgp.specs.Prefixes.{Cidr, masked, address_of, bytes_for}
use Rattle.nr_spec_bgp.specs.Attributes.{Attribute}
use Rattle.nr_spec_bgp.specs.Messages.{Changes, Meaning, Opens, Updates, Notifies, KeepsAlive, Refreshes}
use Rattle.nr_laws_bgp.specs.Values.{Holds, MayFollow, AreComplete}

-- ---- prefixes

-- a prefix in front of the bytes, and what stands after it
pub record IsCidrIn (bytes : List ℕ) (p : Cidr) (more : List ℕ) : Type 0 where
  pub len : ℕ
  pub piece : List ℕ
  pub spelled : bytes ≡ len ∷ (piece ++ more)
  pub short : len ≤ 32
  pub whole : length piece ≡ bytes_for len
  pub value : p ≡ masked (address_of piece) len

-- prefixes one after another, and nothing else
abbrev pub AreCidrs : List ℕ → List Cidr → Type 0
AreCidrs bytes [] = bytes ≡ []
AreCidrs bytes (p ∷ cidrs) = (more : List ℕ) × IsCidrIn bytes p more × AreCidrs more cidrs

-- ---- attributes

-- how many bytes the length of an attribute has: two where the flag Extended Length is set, the bit of value 16, else
-- one (RFC 4271, section 4.3)
abbrev pub IsWidth : ℕ → ℕ → Type 0
IsWidth flags width = ((flags / 16 % 2 ≡ 0) × (width ≡ 1)) ⊎ ((flags / 16 % 2 ≡ 1) × (width ≡ 2))

-- an attribute in front of the bytes: flags, type, length and value
pub record IsAttributeIn (bytes : List ℕ) (a : Attribute) (more : List ℕ) : Type 0 where
  pub flags : ℕ
  pub width : ℕ
  pub size : List ℕ
  pub spelled : bytes ≡ flags ∷ a.kind ∷ (size ++ (a.value ++ more))
  pub width_is : IsWidth flags width
  pub sized : Holds width (length a.value) size

-- attributes one after another, and nothing else, each of which may follow those before
abbrev pub AreAttributes : Bool → List Attribute → List ℕ → List Attribute → Type 0
AreAttributes as4 before bytes [] = bytes ≡ []
AreAttributes as4 before bytes (a ∷ list) =
    (more : List ℕ) × IsAttributeIn bytes a more × MayFollow as4 before a
    × AreAttributes as4 (before ++ a ∷ []) more list

-- ---- messages

-- a header and a body
pub record IsMessageOf (raw : List ℕ) (kind : ℕ) (body : List ℕ) : Type 0 where
  pub size : List ℕ
  pub spelled : raw ≡ replicate 16 255 ++ (size ++ (kind ∷ body))
  pub sized : Holds 2 (length raw) size

-- OPEN: ten bytes, of which the last is the length of the parameters, and the parameters
pub record IsOpen (body : List ℕ) : Type 0 where
  pub fixed : List ℕ
  pub parameters : List ℕ
  pub spelled : body ≡ fixed ++ (length parameters ∷ parameters)
  pub whole : length fixed ≡ 9

pub record IsUpdate (as4 : Bool) (body : List ℕ) (c : Changes) : Type 0 where
  pub withdrawn_size : List ℕ
  pub withdrawn_part : List ℕ
  pub block_size : List ℕ
  pub announced_part : List ℕ
  pub spelled : body ≡ withdrawn_size ++ (withdrawn_part ++ (block_size ++ (c.attributes.block ++ announced_part)))
  pub withdrawn_sized : Holds 2 (length withdrawn_part) withdrawn_size
  pub block_sized : Holds 2 (length c.attributes.block) block_size
  pub withdrawn : AreCidrs withdrawn_part c.withdrawn
  pub as4_is : c.attributes.as4 ≡ as4
  pub attributes : AreAttributes as4 [] c.attributes.block c.attributes.list
  pub announced : AreCidrs announced_part c.announced
  pub complete : (length announced_part ≡ 0) ⊎ AreComplete c.attributes.list

-- which bytes are a message, and what it means
abbrev pub IsMessage : Bool → List ℕ → Meaning → Type 0
IsMessage as4 raw Opens = (body : List ℕ) × IsMessageOf raw 1 body × IsOpen body
IsMessage as4 raw (Updates c) = (body : List ℕ) × IsMessageOf raw 2 body × IsUpdate as4 body c
IsMessage as4 raw Notifies = (body : List ℕ) × IsMessageOf raw 3 body × (2 ≤ length body)
IsMessage as4 raw KeepsAlive = IsMessageOf raw 4 []
IsMessage as4 raw Refreshes = (body : List ℕ) × IsMessageOf raw 5 body × (4 ≤ length body)
