-- Which field of an authenticator, or of a file of authenticators, is the first malformed one: all that stands before
-- the field is whole and as the format wants, and the field itself is cut off, or isn't what the format wants there.
use Rattle.std.specs.Prelude.{◌≡◌, ◌≢◌, ℕ, ◌+◌, ◌*◌, ◌<◌, ◌≤◌, true, false, List, ◌++◌, length, take, drop, Option, None}
use Rattle.std.specs.List.{flat_map}
use Rattle.byteorder.specs.Endian.{big_number}
use Rattle.nr_spec_log.specs.Authenticator.{Authenticator, AreAuthenticators, Head, authenticator, auths_magic, is_leaf, is_asn_of, is_seq_of, is_time_of}
use Rattle.nr_laws_files.specs.Cuts.{IsCut}

-- a signature: the leaf's number at 0, the height at 4, the pairs at 5, the path at 16389
pub record HasLeaf (bytes : List ℕ) (height : ℕ) : Type 0 where
  pub whole : 5 ≤ length bytes
  pub height_is : height ≡ big_number 1 (drop 4 bytes)
  pub fits : is_leaf (big_number 4 bytes) height ≡ true

pub data SignatureFault (bytes : List ℕ) (at : ℕ) : Type 0 where
  leaf_cut : IsCut bytes 0 4 → at ≡ 0 → SignatureFault bytes at
  height_cut : IsCut bytes 4 1 → at ≡ 4 → SignatureFault bytes at
  no_leaf : 5 ≤ length bytes → is_leaf (big_number 4 bytes) (big_number 1 (drop 4 bytes)) ≡ false → at ≡ 4
      → SignatureFault bytes at
  pairs_cut : (h : ℕ) → HasLeaf bytes h → IsCut bytes 5 16384 → at ≡ 5 → SignatureFault bytes at
  path_cut : (h : ℕ) → HasLeaf bytes h → IsCut bytes 16389 (32 * h) → at ≡ 16389 → SignatureFault bytes at

-- the first three fields of an authenticator are those of the wanted entry, where one is wanted
pub record Speaks (head : Option Head) (bytes : List ℕ) : Type 0 where
  pub asn : is_asn_of head (big_number 4 bytes) ≡ true
  pub seq : is_seq_of head (big_number 8 (drop 4 bytes)) ≡ true
  pub time : is_time_of head (big_number 8 (drop 12 bytes)) ≡ true

-- an authenticator: the AS at 0, the number at 4, the time at 12, the hash at 20, the signature at 52. Where an entry
-- is wanted, the first three are that entry's.
pub data AuthFault (head : Option Head) (bytes : List ℕ) (at : ℕ) : Type 0 where
  asn_cut : IsCut bytes 0 4 → at ≡ 0 → AuthFault head bytes at
  asn_other : 4 ≤ length bytes → is_asn_of head (big_number 4 bytes) ≡ false → at ≡ 0 → AuthFault head bytes at
  seq_cut : is_asn_of head (big_number 4 bytes) ≡ true → IsCut bytes 4 8 → at ≡ 4 → AuthFault head bytes at
  seq_other : is_asn_of head (big_number 4 bytes) ≡ true → 12 ≤ length bytes
      → is_seq_of head (big_number 8 (drop 4 bytes)) ≡ false → at ≡ 4 → AuthFault head bytes at
  time_cut : is_asn_of head (big_number 4 bytes) ≡ true → is_seq_of head (big_number 8 (drop 4 bytes)) ≡ true
      → IsCut bytes 12 8 → at ≡ 12 → AuthFault head bytes at
  time_other : is_asn_of head (big_number 4 bytes) ≡ true → is_seq_of head (big_number 8 (drop 4 bytes)) ≡ true
      → 20 ≤ length bytes → is_time_of head (big_number 8 (drop 12 bytes)) ≡ false → at ≡ 12 → AuthFault head bytes at
  hash_cut : Speaks head bytes → IsCut bytes 20 32 → at ≡ 20 → AuthFault head bytes at
  sig_fault : Speaks head bytes → 52 ≤ length bytes → (d : ℕ) → SignatureFault (drop 52 bytes) d → at ≡ 52 + d
      → AuthFault head bytes at

-- a file of authenticators: four bytes, and authenticators to the end
pub data AuthsFault (bytes : List ℕ) (at : ℕ) : Type 0 where
  magic_cut : IsCut bytes 0 4 → at ≡ 0 → AuthsFault bytes at
  magic_other : 4 ≤ length bytes → take 4 bytes ≢ auths_magic → at ≡ 0 → AuthsFault bytes at
  auth_fault : (before : List Authenticator) (rest : List ℕ) → AreAuthenticators before
      → bytes ≡ auths_magic ++ (flat_map authenticator before ++ rest) → 0 < length rest
      → (d : ℕ) → AuthFault None rest d → at ≡ 4 + length (flat_map authenticator before) + d → AuthsFault bytes at
