-- Seed files and key files.
use Rattle.std.specs.Prelude.{ℕ, List, ◌++◌, Result, codes}
use Rattle.byteorder.specs.Endian.{big_bytes}
use Rattle.nr_spec_wire.specs.Reading.{◌>>=◌, start_of, bytes_at, ends_at}
use Rattle.nr_spec_keys.specs.Trees.{root_of, tree_of}

-- the key of a network: its AS, the height of its tree, and the seed from which every secret follows
pub record Key : Type 0 where
  pub asn : ℕ
  pub height : ℕ
  pub seed : List ℕ

-- the size of a seed in bytes
abbrev pub seed_size : ℕ
seed_size = 32

-- a seed file is a seed
unfoldable pub seed_of : List ℕ → Result (List ℕ) ℕ
seed_of bytes = do
  seed ← bytes_at seed_size (start_of bytes)
  ends_at seed.1 seed.0

abbrev pub key_magic : List ℕ
key_magic = codes "NRK1"

-- a key file: four bytes, the AS, the height and the seed
unfoldable pub key_file : Key → List ℕ
key_file key = key_magic ++ (big_bytes 4 key.asn ++ (big_bytes 1 key.height ++ key.seed))

-- the root of the key's tree
unfoldable pub key_root : Key → List ℕ
key_root key = root_of (tree_of key.seed key.height)
