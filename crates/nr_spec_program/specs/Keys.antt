-- What a key file holds.
use Rattle.std.specs.Prelude.{ℕ, ◌&&◌, List, Ok, Result, nat_le}
use Rattle.nr_spec_wire.specs.Reading.{◌>>=◌, bytes_at, ends_at, number_at, start_of, wants}
use Rattle.nr_spec_log.specs.Authenticator.{magic_at}
use Rattle.nr_spec_history.specs.KeyFiles.{Key, key_magic, seed_size}

-- the key that a file holds, or the place of its first malformed field
unfoldable pub key_of : List ℕ → Result Key ℕ
key_of bytes = do
  magic ← magic_at key_magic (start_of bytes)
  asn ← number_at 4 magic.1
  any ← number_at 1 asn.1
  height ← wants (nat_le 1 any.0 && nat_le any.0 16) asn.1.at any
  seed ← bytes_at seed_size height.1
  ends_at seed.1 (record { asn = asn.0; height = height.0; seed = seed.0 })
