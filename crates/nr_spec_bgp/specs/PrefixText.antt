-- The text of a prefix: `a.b.c.d/l`, the numbers in decimal.
use Rattle.std.specs.Prelude.{ℕ, ◌+◌, ◌-◌, ◌*◌, ◌/◌, ◌%◌, ◌^◌, List, [], ◌∷◌, ◌++◌, length, take, drop, Option, Some, None, nat_le, ◌==◌, if◌then◌else◌}
use Rattle.std.specs.List.{prefix_len}
use Rattle.std.specs.Char.{is_ascii_digit}
use Rattle.std.specs.Fmt.{decimal}
use Rattle.nr_spec_wire.specs.Optional.{◌>>=◌}
use Rattle.nr_spec_bgp.specs.Prefixes.{Cidr, masked}

-- the four bytes of an address, the highest first, with `.` between them
abbrev pub address_text : ℕ → List ℕ
address_text addr =
    decimal (addr / 2 ^ 24) ++ 46 ∷ decimal (addr / 2 ^ 16 % 256)
    ++ 46 ∷ decimal (addr / 2 ^ 8 % 256) ++ 46 ∷ decimal (addr % 256)

-- the one text of a prefix
abbrev pub cidr_text : Cidr → List ℕ
cidr_text p = address_text p.addr ++ 47 ∷ decimal p.len

-- ---- reading

-- the number that one to three digits write, of which the first isn't 0 where others follow
abbrev pub numeral : List ℕ → Option ℕ
numeral [] = None
numeral (a ∷ []) = Some (a - 48)
numeral (a ∷ b ∷ []) = if a == 48 then None else Some ((a - 48) * 10 + (b - 48))
numeral (a ∷ b ∷ c ∷ []) = if a == 48 then None else Some ((a - 48) * 100 + (b - 48) * 10 + (c - 48))
numeral (a ∷ b ∷ c ∷ d ∷ more) = None

-- how many digits stand in front of a text
abbrev pub digits_len : List ℕ → ℕ
digits_len text = prefix_len is_ascii_digit text

-- the number, of at most this value, that the digits in front of a text write, and what stands after them
unfoldable pub number_in : ℕ → List ℕ → Option (ℕ × List ℕ)
number_in most text = do
  n ← numeral (take (digits_len text) text)
  if nat_le n most then Some (n, drop (digits_len text) text) else None

-- what stands after this byte in front of a text
abbrev pub behind : ℕ → List ℕ → Option (List ℕ)
behind byte [] = None
behind byte (x ∷ text) = if x == byte then Some text else None

-- an address in front of a text, and what stands after it
unfoldable pub address_in : List ℕ → Option (ℕ × List ℕ)
address_in text = do
  a ← number_in 255 text
  text-b ← behind 46 a.1
  b ← number_in 255 text-b
  text-c ← behind 46 b.1
  c ← number_in 255 text-c
  text-d ← behind 46 c.1
  d ← number_in 255 text-d
  Some (a.0 * 2 ^ 24 + b.0 * 2 ^ 16 + c.0 * 2 ^ 8 + d.0, d.1)

-- the prefix that a text writes: bits after the length are left out
unfoldable pub cidr_in : List ℕ → Option Cidr
cidr_in text = do
  addr ← address_in text
  text-len ← behind 47 addr.1
  len ← number_in 32 text-len
  if length len.1 == 0 then Some (masked addr.0 len.0) else None
