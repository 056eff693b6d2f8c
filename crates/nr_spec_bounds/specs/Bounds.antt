-- The rows and the counts that the body of a checkpoint can state.
use Rattle.std.specs.Prelude.{ℕ, ◌+◌, ◌<◌, ◌≤◌, ◌^◌, ◌≡◌, List, None, Ok, Option, Some, length, true}
use Rattle.std.specs.List.{AllByRecursion}
use Rattle.nr_spec_wire.specs.Reading.{IsBytes}
use Rattle.nr_spec_log.specs.Chain.{LogEntry}
use Rattle.nr_spec_log.specs.Authenticator.{digest_size}
use Rattle.nr_spec_bgp.specs.Attributes.{AttributeBlock, attributes_in, is_complete}
use Rattle.nr_spec_bgp.specs.Prefixes.{IsCidr}
use Rattle.nr_spec_entry.specs.Contents.{most_delay, most_neighbours}
use Rattle.nr_spec_routes.specs.Keys.{AreAscending, Key, Row}
use Rattle.nr_spec_counts.specs.Tallies.{Numbers, Tally}

-- ---- rows

-- a prefix without bits after its length, and a neighbour
pub record IsKey (key : Key) : Type 0 where
  pub prefix : IsCidr key.prefix
  pub neighbour : key.neighbour < most_neighbours

-- attributes that a route can have: their block has a length of two bytes, is in the grammar, and is complete
pub record IsRoute (b : AttributeBlock) : Type 0 where
  pub size : length b.block < 2 ^ 16
  pub reads : attributes_in b.as4 b.block ≡ Ok b.list
  pub complete : is_complete b.list ≡ true

abbrev pub IsRow : Row → Type 0
IsRow (key, b) = IsKey key × IsRoute b

-- rows that a body can state: each can be, and they ascend
pub record AreRows (rows : List Row) : Type 0 where
  pub each : AllByRecursion IsRow rows
  pub order : AreAscending rows

-- ---- counts

-- the bound of the numbers of SENDs and of COMMITs: 2^63
abbrev pub most_counted : ℕ
most_counted = 9223372036854775808

-- the numbers of a promise file, in the ranges of a PROMISE
abbrev pub IsForce : Option Numbers → Type 0
IsForce None = Unit {0}
IsForce (Some force) =
    (length force.digest ≡ digest_size) × (force.count ≤ most_neighbours) × (force.delay ≤ most_delay)

abbrev pub IsOldest : Option ℕ → Type 0
IsOldest None = Unit {0}
IsOldest (Some time) = time < 2 ^ 64

-- counts that a body can state
pub record IsTally (t : Tally) : Type 0 where
  pub last : t.last < 2 ^ 64
  pub force : IsForce t.in_force
  pub commits : t.commits < most_counted
  pub sends : (n : ℕ) → t.sends n < most_counted
  pub acked : (n : ℕ) → t.acked n < 2 ^ 64
  pub oldest : (n : ℕ) → IsOldest (t.oldest n)
  -- of no one else anything is known
  pub no_sends : (n : ℕ) → most_neighbours ≤ n → t.sends n ≡ 0
  pub no_acked : (n : ℕ) → most_neighbours ≤ n → t.acked n ≡ 0
  pub no_oldest : (n : ℕ) → most_neighbours ≤ n → t.oldest n ≡ None

-- there is room for so many SENDs and COMMITs more
pub record HasRoom (t : Tally) (more : ℕ) : Type 0 where
  pub commits : t.commits + more < most_counted
  pub sends : (n : ℕ) → t.sends n + more < most_counted

-- ---- entries

-- an entry as it stands in a file: its time has eight bytes, and its content is bytes
pub record IsStated (e : LogEntry) : Type 0 where
  pub time : e.time < 2 ^ 64
  pub content : IsBytes e.content

abbrev pub AreStated : List LogEntry → Type 0
AreStated entries = AllByRecursion IsStated entries
