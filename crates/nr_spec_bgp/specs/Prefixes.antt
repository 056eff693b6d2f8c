-- IPv4 prefixes: an address and a length (RFC 4632, section 3.1), and how they stand in a message
-- (RFC 4271, section 4.3).
use Rattle.std.specs.Prelude.{◌≡◌, ℕ, ◌+◌, ◌-◌, ◌*◌, ◌/◌, ◌^◌, ◌≤◌, ◌<◌, Bool, ◌&&◌, ◌||◌, List, [], ◌∷◌, ◌++◌, take, Result, Ok, Err, nat_lt, nat_le, ◌==◌}
use Rattle.std.specs.List.{list_any}
use Rattle.byteorder.specs.Endian.{big_number, big_bytes}
use Rattle.nr_spec_wire.specs.Reading.{Spot, Read, ◌>>=◌, number_at, bytes_at, wants}

pub record Cidr : Type 0 where
  pub addr : ℕ  -- the address, a number of 32 bits
  pub len : ℕ  -- how many of its bits count

-- the first len bits of an address, as a number
abbrev pub front : ℕ → ℕ → ℕ
front addr len = addr / 2 ^ (32 - len)

-- the prefix of an address: the bits after the length are 0
abbrev pub masked : ℕ → ℕ → Cidr
masked addr len = record { addr = front addr len * 2 ^ (32 - len); len = len }

-- what is a prefix
pub record IsCidr (p : Cidr) : Type 0 where
  pub len : p.len ≤ 32
  pub addr : p.addr < 2 ^ 32
  pub clear : front p.addr p.len * 2 ^ (32 - p.len) ≡ p.addr

-- p covers q: q is at least as long, and they agree in the bits of p
abbrev pub covers : Cidr → Cidr → Bool
covers p q = nat_le p.len q.len && front q.addr p.len == front p.addr p.len

-- the order: by address, then by length
abbrev pub comes_before : Cidr → Cidr → Bool
comes_before p q = nat_lt p.addr q.addr || (p.addr == q.addr && nat_lt p.len q.len)

-- ---- sets of prefixes

-- the prefixes that one covers, up to a greatest length
pub record CidrPattern : Type 0 where
  pub base : Cidr
  pub most : ℕ

abbrev pub fits : Cidr → CidrPattern → Bool
fits p w = covers w.base p && nat_le p.len w.most

-- a prefix is in a set where it fits one of its patterns
abbrev pub is_in : List CidrPattern → Cidr → Bool
is_in set p = list_any (fits p) set

-- ---- in a message: a length of one byte, and as many bytes as the length wants

-- how many bytes hold that many bits
abbrev pub bytes_for : ℕ → ℕ
bytes_for bits = (bits + 7) / 8

-- the address whose first bytes these are, followed by 0
abbrev pub address_of : List ℕ → ℕ
address_of bytes = big_number 4 (bytes ++ 0 ∷ 0 ∷ 0 ∷ 0 ∷ [])

-- every fault of a reading counts at this place
abbrev pub faults_at : {A : Type 0} → ℕ → Result A ℕ → Result A ℕ
faults_at place (Ok x) = Ok x
faults_at place (Err e) = Err place

-- A prefix that passes the end of its part, or is longer than 32, is a fault at its length.
-- The bits after the length don't matter.
unfoldable pub cidr_at : Spot → Read Cidr
cidr_at s = do
  len ← number_at 1 s
  fine ← wants (nat_le len.0 32) s.at len.0
  bytes ← faults_at s.at (bytes_at (bytes_for fine) len.1)
  Ok (masked (address_of bytes.0) fine, bytes.1)

-- the spelling of a prefix
abbrev pub cidr_bytes : Cidr → List ℕ
cidr_bytes p = p.len ∷ take (bytes_for p.len) (big_bytes 4 p.addr)
