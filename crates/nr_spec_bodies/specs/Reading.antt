-- Reading the body of a checkpoint, field by field, with the place of the first malformed field. Offsets count bytes
-- from the start of the body.
use Rattle.std.specs.Prelude.{[], if◌then◌else◌, zero, suc, ℕ, ◌*◌, ◌-◌, ◌==◌, ◌^◌, ◌∷◌, Bool, List, None, Ok, Option, Result, Some, get_or, map, nat_le, nat_lt, replicate, true}
use Rattle.std.specs.Ordering.{is_lt}
use Rattle.std.specs.Str.{bytes_eq}
use Rattle.nr_spec_wire.specs.Reading.{Read, Spot, ◌>>=◌, bytes_at, ends_at, number_at, start_of, wants}
use Rattle.nr_spec_log.specs.Authenticator.{digest_size}
use Rattle.nr_spec_bgp.specs.Prefixes.{faults_at, front}
use Rattle.nr_spec_bgp.specs.Attributes.{AttributeBlock, attributes_in, is_complete}
use Rattle.nr_spec_entry.specs.Contents.{most_delay, most_neighbours}
use Rattle.nr_spec_routes.specs.declared.direction.Direction.{Direction}
use Rattle.nr_spec_routes.specs.declared.direction.Direction.TheVariants.{Received, Sent}
use Rattle.nr_spec_routes.specs.Keys.{Key, Row, key_cmp}
use Rattle.nr_spec_counts.specs.Tallies.{Numbers, Tally}
use Rattle.nr_spec_bounds.specs.Bounds.{most_counted}
use Rattle.nr_spec_report.specs.Wrong.{Base}

-- ---- the promise in force

-- after the flag 1 the numbers of a promise file, in the ranges of a PROMISE
unfoldable pub set_force_at : Spot → Read (Option Numbers)
set_force_at s = do
  digest ← bytes_at digest_size s
  any_count ← number_at 2 digest.1
  count ← wants (nat_le any_count.0 most_neighbours) digest.1.at any_count
  any_delay ← number_at 4 count.1
  delay ← wants (nat_le any_delay.0 most_delay) count.1.at any_delay
  Ok (Some (record { digest = digest.0; count = count.0; delay = delay.0 }), delay.1)

-- after the flag 0 the same fields, each all 0
unfoldable pub unset_force_at : Spot → Read (Option Numbers)
unset_force_at s = do
  any_digest ← bytes_at digest_size s
  digest ← wants (bytes_eq any_digest.0 (replicate digest_size 0)) s.at any_digest
  any_count ← number_at 2 digest.1
  count ← wants (any_count.0 == 0) digest.1.at any_count
  any_delay ← number_at 4 count.1
  delay ← wants (any_delay.0 == 0) count.1.at any_delay
  Ok (None, delay.1)

unfoldable pub force_at : Spot → Read (Option Numbers)
force_at s = do
  any ← number_at 1 s
  flag ← wants (nat_le any.0 1) s.at any
  if flag.0 == 1 then set_force_at flag.1 else unset_force_at flag.1

-- ---- what is known of a neighbour

-- the messages that were sent to it, those that it acknowledged, and the time of the oldest since the last COMMIT to it
pub record Known : Type 0 where
  pub sends : ℕ
  pub acked : ℕ
  pub oldest : Option ℕ

-- a time after the flag 1, and 0 after the flag 0
abbrev pub flagged : ℕ → ℕ → Option ℕ
flagged flag time = if flag == 1 then Some time else None

abbrev pub is_flagged : ℕ → ℕ → Bool
is_flagged flag time = if flag == 1 then true else time == 0

unfoldable pub known_at : Spot → Read Known
known_at s = do
  any_sends ← number_at 8 s
  sends ← wants (nat_lt any_sends.0 most_counted) s.at any_sends
  acked ← number_at 8 sends.1
  any_flag ← number_at 1 acked.1
  flag ← wants (nat_le any_flag.0 1) acked.1.at any_flag
  any_time ← number_at 8 flag.1
  time ← wants (is_flagged flag.0 any_time.0) flag.1.at any_time
  Ok (record { sends = sends.0; acked = acked.0; oldest = flagged flag.0 time.0 }, time.1)

-- so many values, one after another
unfoldable pub times_at : {A : Type 0} → (Spot → Read A) → ℕ → Spot → Read (List A)
times_at item zero s = Ok ([], s)
times_at item (suc n) s = do
  first ← item s
  others ← times_at item n first.1
  Ok (first.0 ∷ others.0, others.1)

-- ---- the counts

-- what is known, where this is known of each neighbour; of no one else anything is
abbrev pub tally_from : ℕ → Option Numbers → ℕ → List Known → Tally
tally_from last force commits known = record {
  sends = λ n. get_or (map (λ (x : Known). x.sends) known) n 0;
  acked = λ n. get_or (map (λ (x : Known). x.acked) known) n 0;
  oldest = λ n. get_or (map (λ (x : Known). x.oldest) known) n None;
  commits = commits;
  in_force = force;
  last = last;
}

unfoldable pub tally_at : Spot → Read Tally
tally_at s = do
  last ← number_at 8 s
  force ← force_at last.1
  any_commits ← number_at 8 force.1
  commits ← wants (nat_lt any_commits.0 most_counted) force.1.at any_commits
  known ← times_at known_at most_neighbours commits.1
  Ok (tally_from last.0 force.0 commits.0 known.0, known.1)

-- ---- rows

-- the bits of an address after the length are 0
abbrev pub is_masked : ℕ → ℕ → Bool
is_masked addr len = front addr len * 2 ^ (32 - len) == addr

abbrev pub direction_of : ℕ → Direction
direction_of n = if n == 1 then Sent else Received

unfoldable pub key_at : Spot → Read Key
key_at s = do
  any_len ← number_at 1 s
  len ← wants (nat_le any_len.0 32) s.at any_len
  any_addr ← number_at 4 len.1
  addr ← wants (is_masked any_addr.0 len.0) len.1.at any_addr
  any_direction ← number_at 1 addr.1
  direction ← wants (nat_le any_direction.0 1) addr.1.at any_direction
  any_neighbour ← number_at 2 direction.1
  neighbour ← wants (nat_lt any_neighbour.0 most_neighbours) direction.1.at any_neighbour
  Ok (
    record {
      prefix = record { addr = addr.0; len = len.0 };
      direction = direction_of direction.0;
      neighbour = neighbour.0;
    },
    neighbour.1,
  )

-- a block that is in the grammar and complete; a fault inside it counts at its first byte
unfoldable pub route_at : Spot → Read AttributeBlock
route_at s = do
  any_as4 ← number_at 1 s
  as4 ← wants (nat_le any_as4.0 1) s.at any_as4
  size ← number_at 2 as4.1
  block ← bytes_at size.0 size.1
  any_list ← faults_at size.1.at (attributes_in (as4.0 == 1) block.0)
  list ← wants (is_complete any_list) size.1.at any_list
  Ok (record { block = block.0; as4 = as4.0 == 1; list = list }, block.1)

-- it stands after another in the order of rows
abbrev pub is_behind : Option Key → Key → Bool
is_behind None key = true
is_behind (Some before) key = is_lt (key_cmp before key)

-- A row that isn't after the one before it is a fault at its first byte, once what it is of is read.
unfoldable pub row_at : Option Key → Spot → Read Row
row_at before s = do
  any_key ← key_at s
  key ← wants (is_behind before any_key.0) s.at any_key
  route ← route_at key.1
  Ok ((key.0, route.0), route.1)

-- so many rows, each after the one before
unfoldable pub rows_behind : Option Key → ℕ → Spot → Read (List Row)
rows_behind before zero s = Ok ([], s)
rows_behind before (suc n) s = do
  first ← row_at before s
  others ← rows_behind (Some first.0.0) n first.1
  Ok (first.0 ∷ others.0, others.1)

-- the number of rows, and so many
unfoldable pub table_at : Spot → Read (List Row)
table_at s = do
  count ← number_at 8 s
  rows_behind None count.0 count.1

-- ---- the body

-- the base that a body states, or the place of its first malformed field
unfoldable pub base_of : List ℕ → Result Base ℕ
base_of bytes = do
  tally ← tally_at (start_of bytes)
  rows ← table_at tally.1
  ends_at rows.1 (record { rows = rows.0; tally = tally.0 })
