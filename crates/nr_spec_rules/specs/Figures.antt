-- The texts that begin with a digit: numbers, addresses, prefixes and communities.
use Rattle.std.specs.Prelude.{ℕ, ◌+◌, ◌-◌, ◌*◌, Bool, false, ◌&&◌, ◌||◌, not, List, [], ◌∷◌, length, take, drop, position, Option, Some, None, nat_le, ◌==◌, if◌then◌else◌}
use Rattle.std.specs.List.{list_all}
use Rattle.std.specs.Result.{result_ok}
use Rattle.std.specs.Char.{is_ascii_digit}
use Rattle.hex.specs.Hex.{decode_sized}
use Rattle.nr_spec_wire.specs.Optional.{◌>>=◌}

-- what decimal digits are worth, the highest first, after digits that are worth n
abbrev pub worth_from : ℕ → List ℕ → ℕ
worth_from n [] = n
worth_from n (d ∷ ds) = worth_from (10 * n + (d - 48)) ds

-- decimal digits, one or more, and no 0 in front of others
abbrev pub is_numeral : List ℕ → Bool
is_numeral [] = false
is_numeral (d ∷ ds) = list_all is_ascii_digit (d ∷ ds) && (not (d == 48) || length ds == 0)

-- the number that a text is, where it is at most this one
unfoldable pub number_to : ℕ → List ℕ → Option ℕ
number_to most text = if is_numeral text && nat_le (worth_from 0 text) most then Some (worth_from 0 text) else None

-- what stands before the first such byte, and what after it
unfoldable pub cut : ℕ → List ℕ → Option (List ℕ × List ℕ)
cut byte text = do
  at ← position (λ b. b == byte) text
  Some (take at text, drop (at + 1) text)

-- `a`, a number of 32 bits
unfoldable pub number_of : List ℕ → Option ℕ
number_of text = number_to 4294967295 text

-- `a.b.c.d`
unfoldable pub address_of : List ℕ → Option ℕ
address_of text = do
  a ← cut 46 text
  b ← cut 46 a.1
  c ← cut 46 b.1
  first ← number_to 255 a.0
  second ← number_to 255 b.0
  third ← number_to 255 c.0
  fourth ← number_to 255 c.1
  Some (((first * 256 + second) * 256 + third) * 256 + fourth)

-- `a.b.c.d/l`: the address as it is written, and the length
unfoldable pub prefix_of : List ℕ → Option (ℕ × ℕ)
prefix_of text = do
  parts ← cut 47 text
  addr ← address_of parts.0
  len ← number_to 32 parts.1
  Some (addr, len)

-- `a:b`, as one number of 32 bits (RFC 1997)
unfoldable pub community_of : List ℕ → Option ℕ
community_of text = do
  parts ← cut 58 text
  high ← number_to 65535 parts.0
  low ← number_to 65535 parts.1
  Some (high * 65536 + low)

-- `#` and 64 hexadecimal digits, as 32 bytes
abbrev pub digest_of : List ℕ → Option (List ℕ)
digest_of [] = None
digest_of (mark ∷ digits) = result_ok (decode_sized digits 32)
