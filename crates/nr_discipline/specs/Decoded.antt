-- What decoding gives, in the words of the definitions.
use Rattle.std.specs.Prelude.{ℕ, ◌<◌, ◌^◌, ◌≡◌, Err, List, None, Ok, Option, Result, map, slice_index, slice_index_or}
use Rattle.std.specs.List.{range_with_len}
use Rattle.nr_spec_wire.specs.Reading.{Read, Spot}
use Rattle.nr_spec_counts.specs.Tallies.{Tally}
use Rattle.nr_spec_routes.specs.Keys.{Row}
use Rattle.nr_spec_report.specs.Wrong.{Base}
use Rattle.nr_spec_bodies.specs.Reading as reading
use Rattle.nr_spec_bodies.specs.Reading.{tally_from}
use Rattle.nr_discipline.specs.declared.counts_reading.Known.{Known}
use Rattle.nr_discipline.specs.declared.decoding.DecodeError.{DecodeError}
use Rattle.nr_discipline.specs.declared.decoding.DecodeError.TheVariants.{At, Memory}
use Rattle.nr_discipline.specs.Kept.{IsKeptOf, Kept}

-- What is decoded is what reading the body gives: its rows, and counts that are kept of its tally; or the place of its
-- first malformed field. Want of memory says nothing.
abbrev pub AreDecoded : Result (List Row × Kept) DecodeError → Result Base ℕ → Type 0
AreDecoded (Ok found) read = (base : Base) × (read ≡ Ok base) × (found.0 ≡ base.rows) × IsKeptOf base.tally found.1
AreDecoded (Err (At place)) read = read ≡ Err place.0
AreDecoded (Err Memory) read = Unit {0}

-- the numbers of SENDs and COMMITs are below 2^63, as the body of a checkpoint states them
pub record HasRoom (counts : Kept) : Type 0 where
  pub sends : (n : ℕ) → n < 256 → slice_index counts.sends n < 2 ^ 63
  pub commits : counts.commits < 2 ^ 63

-- ---- for the parts

-- a result is what reading gives, and so is the spot after it
abbrev pub Decodes : {X Y : Type 0} → (X → Y) → Result X DecodeError → Spot → Read Y → Type 0
Decodes view (Ok x) new read = read ≡ Ok (view x, new)
Decodes view (Err (At place)) new read = read ≡ Err place.0
Decodes view (Err Memory) new read = Unit {0}

-- the same of what reads all of the bytes
abbrev pub Answered : {X Y : Type 0} → (X → Y) → Result X DecodeError → Result Y ℕ → Type 0
Answered view (Ok x) read = read ≡ Ok (view x)
Answered view (Err (At place)) read = read ≡ Err place.0
Answered view (Err Memory) read = Unit {0}

abbrev pub known_of : Known → reading.Known
known_of k = record { sends = k.sends; acked = k.acked; oldest = k.oldest }

-- what is kept of a neighbour
abbrev pub known_in : List ℕ → List ℕ → List (Option ℕ) → ℕ → reading.Known
known_in sends acked oldest n =
    record { sends = slice_index sends n; acked = slice_index acked n; oldest = slice_index_or oldest n None }

-- of each below a bound
unfoldable pub known_below : ℕ → List ℕ → List ℕ → List (Option ℕ) → List reading.Known
known_below bound sends acked oldest = map (known_in sends acked oldest) (range_with_len 0 bound)

abbrev pub tally_of : Kept → Tally
tally_of k = tally_from k.last k.in_force k.commits (known_below 256 k.sends k.acked k.oldest)

abbrev pub base_view : List Row × Kept → Base
base_view found = record { rows = found.0; tally = tally_of found.1 }
