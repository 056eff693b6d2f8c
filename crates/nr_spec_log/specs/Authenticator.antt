-- Signatures, authenticators and files of them: the one spelling of each, and its reading.
use Rattle.std.specs.Prelude.{ℕ, ◌+◌, ◌*◌, ◌^◌, ◌<◌, ◌≤◌, ◌≡◌, Bool, true, ◌&&◌, ◌==◌, nat_lt, nat_le, List, ◌++◌, length, Option, None, Some, Result, Ok, codes}
use Rattle.std.specs.List.{flat_map, AllByRecursion}
use Rattle.std.specs.Str.{bytes_eq}
use Rattle.byteorder.specs.Endian.{big_bytes}
use Rattle.nr_spec_wire.specs.Reading.{Spot, Read, ◌>>=◌, start_of, number_at, bytes_at, wants, all_rows_at}

-- ---- signatures

-- A one-time signature under a tree: the leaf's number, the tree's height, 256 times the secret of the
-- signed digest's bit and the public digest of the other bit, and the sibling digests from the leaf upwards.
pub record Signature : Type 0 where
  pub leaf : ℕ
  pub height : ℕ
  pub pairs : List ℕ
  pub path : List ℕ

-- the sizes of the pairs and of one digest in bytes
abbrev pub pairs_size : ℕ
pairs_size = 16384

abbrev pub digest_size : ℕ
digest_size = 32

-- a tree has a height from 1 to 16, and 2^height leaves
abbrev pub is_leaf : ℕ → ℕ → Bool
is_leaf leaf height = nat_le 1 height && (nat_le height 16 && nat_lt leaf (2 ^ height))

abbrev pub signature : Signature → List ℕ
signature s = big_bytes 4 s.leaf ++ (big_bytes 1 s.height ++ (s.pairs ++ s.path))

-- what has a spelling
pub record IsSignature (s : Signature) : Type 0 where
  pub leaf : s.leaf < 2 ^ s.height
  pub least : 1 ≤ s.height
  pub most : s.height ≤ 16
  pub pairs : length s.pairs ≡ pairs_size
  pub path : length s.path ≡ digest_size * s.height

unfoldable pub signature_at : Spot → Read Signature
signature_at s = do
  leaf ← number_at 4 s
  any ← number_at 1 leaf.1
  height ← wants (is_leaf leaf.0 any.0) leaf.1.at any
  pairs ← bytes_at pairs_size height.1
  path ← bytes_at (digest_size * height.0) pairs.1
  Ok (record { leaf = leaf.0; height = height.0; pairs = pairs.0; path = path.0 }, path.1)

-- ---- authenticators

-- A signed statement that entry seq of the log of an AS has this time and chain value.
pub record Authenticator : Type 0 where
  pub asn : ℕ
  pub seq : ℕ
  pub time : ℕ
  pub hash : List ℕ
  pub sig : Signature

-- the bytes that are signed
abbrev pub signed_body : Authenticator → List ℕ
signed_body a = big_bytes 4 a.asn ++ (big_bytes 8 a.seq ++ (big_bytes 8 a.time ++ a.hash))

abbrev pub authenticator : Authenticator → List ℕ
authenticator a = signed_body a ++ signature a.sig

pub record IsAuthenticator (a : Authenticator) : Type 0 where
  pub asn : a.asn < 2 ^ 32
  pub seq : a.seq < 2 ^ 64
  pub time : a.time < 2 ^ 64
  pub hash : length a.hash ≡ digest_size
  pub sig : IsSignature a.sig

-- the entry that an authenticator has to speak of, where that is known
pub record Head : Type 0 where
  pub asn : ℕ
  pub seq : ℕ
  pub time : ℕ

abbrev pub is_asn_of : Option Head → ℕ → Bool
is_asn_of None n = true
is_asn_of (Some head) n = n == head.asn

abbrev pub is_seq_of : Option Head → ℕ → Bool
is_seq_of None n = true
is_seq_of (Some head) n = n == head.seq

abbrev pub is_time_of : Option Head → ℕ → Bool
is_time_of None n = true
is_time_of (Some head) n = n == head.time

-- An authenticator that speaks of the wanted entry: a fault at the first field that doesn't.
unfoldable pub wanted_at : Option Head → Spot → Read Authenticator
wanted_at head s = do
  any_asn ← number_at 4 s
  asn ← wants (is_asn_of head any_asn.0) s.at any_asn
  any_seq ← number_at 8 asn.1
  seq ← wants (is_seq_of head any_seq.0) asn.1.at any_seq
  any_time ← number_at 8 seq.1
  time ← wants (is_time_of head any_time.0) seq.1.at any_time
  hash ← bytes_at digest_size time.1
  sig ← signature_at hash.1
  Ok (record { asn = asn.0; seq = seq.0; time = time.0; hash = hash.0; sig = sig.0 }, sig.1)

abbrev pub authenticator_at : Spot → Read Authenticator
authenticator_at s = wanted_at None s

-- ---- authenticator files

abbrev pub auths_magic : List ℕ
auths_magic = codes "NRT1"

-- four bytes, and authenticators to the end
abbrev pub auths_file : List Authenticator → List ℕ
auths_file auths = auths_magic ++ flat_map authenticator auths

abbrev pub AreAuthenticators : List Authenticator → Type 0
AreAuthenticators auths = AllByRecursion IsAuthenticator auths

-- four bytes that are these: a fault at the first of them
abbrev pub magic_at : List ℕ → Spot → Read (List ℕ)
magic_at magic s = bytes_at 4 s >>= λ found. wants (bytes_eq found.0 magic) s.at found

unfoldable pub auths_of : List ℕ → Result (List Authenticator) ℕ
auths_of bytes = do
  magic ← magic_at auths_magic (start_of bytes)
  auths ← all_rows_at authenticator_at magic.1
  Ok auths.0
