-- The grammar of MRT records of BGP sessions, by cases on their bytes (RFC 6396, sections 2 to 4.4). It says which
-- bytes are a record and what it tells, and nothing of how it is read.
use Rattle.std.specs.Prelude.{◌≡◌, ◌≢◌, ℕ, ◌+◌, ◌*◌, Bool, true, false, List, [], ◌++◌, length, ◌⊎◌}
use Rattle.nr_spec_bgp.specs.Paths.{as_size}
use Rattle.nr_spec_bgp.specs.Records.{Item, Carries, Turns, Skips}
use Rattle.nr_laws_bgp.specs.Values.{Holds}

-- what the subtypes of BGP4MP hold: a change of state or a message, whether AS numbers have four bytes, and of a
-- message whether the recording router sent the message itself
pub data Sort : Type 0 where
  Change : (wide : Bool) → Sort
  Message : (wide : Bool) (own : Bool) → Sort

-- the subtypes by number
abbrev pub IsSort : ℕ → Sort → Type 0
IsSort n (Change false) = n ≡ 0
IsSort n (Change true) = n ≡ 5
IsSort n (Message false false) = n ≡ 1
IsSort n (Message true false) = n ≡ 4
IsSort n (Message false true) = n ≡ 6
IsSort n (Message true true) = n ≡ 7

abbrev pub is_wide : Sort → Bool
is_wide (Change wide) = wide
is_wide (Message wide own) = wide

-- BGP4MP has no microseconds, BGP4MP_ET four bytes of them
abbrev pub AreMicros : ℕ → List ℕ → ℕ → Type 0
AreMicros kind field micros = ((kind ≡ 16) × (field ≡ []) × (micros ≡ 0)) ⊎ ((kind ≡ 17) × Holds 4 micros field)

-- a session over IPv4, after the family: two addresses, and two states or the message
pub record IsChange (time asn : ℕ) (rest : List ℕ) (item : Item) : Type 0 where
  pub peer : ℕ
  pub old : ℕ
  pub new : ℕ
  pub peer_field : List ℕ
  pub local : List ℕ
  pub old_field : List ℕ
  pub new_field : List ℕ
  pub ignored : List ℕ
  pub spelled : rest ≡ peer_field ++ (local ++ (old_field ++ (new_field ++ ignored)))
  pub peer_is : Holds 4 peer peer_field
  pub local_is : length local ≡ 4
  pub old_is : Holds 2 old old_field
  pub new_is : Holds 2 new new_field
  pub tells : item ≡ Turns (record { time = time; peer_as = asn; peer = peer; old = old; new = new })

pub record IsMessage (time asn : ℕ) (wide own : Bool) (rest : List ℕ) (item : Item) : Type 0 where
  pub peer : ℕ
  pub peer_field : List ℕ
  pub local : List ℕ
  pub raw : List ℕ
  pub spelled : rest ≡ peer_field ++ (local ++ raw)
  pub peer_is : Holds 4 peer peer_field
  pub local_is : length local ≡ 4
  pub tells : item ≡ Carries (record { time = time; peer_as = asn; peer = peer; own = own; as4 = wide; raw = raw })

abbrev pub IsOverIpv4 : ℕ → ℕ → Sort → List ℕ → Item → Type 0
IsOverIpv4 time asn (Change wide) rest item = IsChange time asn rest item
IsOverIpv4 time asn (Message wide own) rest item = IsMessage time asn wide own rest item

-- the body of a record of this sort: microseconds, the two AS numbers, an interface, the family, and the rest, which
-- is ignored where the family is another
pub record IsSession (seconds kind : ℕ) (sort : Sort) (body : List ℕ) (item : Item) : Type 0 where
  pub micros : ℕ
  pub asn : ℕ
  pub family : ℕ
  pub micros_field : List ℕ
  pub peer : List ℕ
  pub local : List ℕ
  pub interface : List ℕ
  pub family_field : List ℕ
  pub rest : List ℕ
  pub spelled : body ≡ micros_field ++ (peer ++ (local ++ (interface ++ (family_field ++ rest))))
  pub micros_are : AreMicros kind micros_field micros
  pub peer_is : Holds (as_size (is_wide sort)) asn peer
  pub local_is : length local ≡ as_size (is_wide sort)
  pub interface_is : length interface ≡ 2
  pub family_is : Holds 2 family family_field
  pub inside : ((family ≡ 1) × IsOverIpv4 (seconds * 1000000 + micros) asn sort rest item)
      ⊎ ((family ≢ 1) × (item ≡ Skips))

-- a record of another type or subtype is skipped, whatever its body
pub data IsBody (seconds kind subtype : ℕ) (body : List ℕ) (item : Item) : Type 0 where
  session : (sort : Sort) → IsSort subtype sort → ((kind ≡ 16) ⊎ (kind ≡ 17)) → IsSession seconds kind sort body item
      → IsBody seconds kind subtype body item
  of_other_type : kind ≢ 16 → kind ≢ 17 → item ≡ Skips → IsBody seconds kind subtype body item
  of_other_subtype : ((sort : Sort) → IsSort subtype sort → ⊥) → item ≡ Skips → IsBody seconds kind subtype body item

-- a record in front of the bytes, and what stands after it
pub record IsRecordIn (bytes : List ℕ) (item : Item) (more : List ℕ) : Type 0 where
  pub seconds : ℕ
  pub kind : ℕ
  pub subtype : ℕ
  pub seconds_field : List ℕ
  pub kind_field : List ℕ
  pub subtype_field : List ℕ
  pub size_field : List ℕ
  pub body : List ℕ
  pub spelled : bytes ≡ seconds_field ++ (kind_field ++ (subtype_field ++ (size_field ++ (body ++ more))))
  pub seconds_are : Holds 4 seconds seconds_field
  pub kind_is : Holds 2 kind kind_field
  pub subtype_is : Holds 2 subtype subtype_field
  pub sized : Holds 4 (length body) size_field
  pub tells : IsBody seconds kind subtype body item
