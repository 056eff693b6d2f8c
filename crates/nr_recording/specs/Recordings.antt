-- Recordings, as their files' records.
use Rattle.std.specs.Prelude.{◌≡◌, ℕ, ◌≤◌, Bool, List, [], ◌∷◌, ◌++◌, Result, Ok, Err}
use Rattle.std.specs.List.{list_any}
use Rattle.nr_spec_bgp.specs.Records.{Item}
use Rattle.nr_spec_recording.specs.Records.{Speaker}
use Rattle.nr_spec_recording.specs.Events as events
use Rattle.nr_recording.specs.declared.fault.FileError.{FileError}
use Rattle.nr_recording.specs.declared.fault.FileError.TheVariants.{Malformed, Memory}
use Rattle.nr_recording.specs.Files.{long_in}
use Rattle.nr_recording.specs.Views.{items_in}

pub record Recorded : Type 0 where
  pub neighbours : List Speaker
  pub files : List (List Item)

abbrev pub recorded : List Speaker → List (List Item) → Recorded
recorded neighbours files = record { neighbours = neighbours; files = files }

abbrev pub with_file : List Item → Recorded → Recorded
with_file items r = recorded r.neighbours (r.files ++ items ∷ [])

-- Adding a file answers what reading it gives: its records are there, or the place of its first malformed field. Memory
-- runs out for a file that reads alone.
abbrev pub Adds : Result (Unit {0}) FileError → Result (List Item) ℕ → Recorded → Recorded → Type 0
Adds (Ok done) read old new = (read ≡ Ok (items_in read)) × (new ≡ with_file (items_in read) old)
Adds (Err (Malformed place)) read old new = (read ≡ Err place.0) × (new ≡ old)
Adds (Err Memory) read old new = (read ≡ Ok (items_in read)) × (new ≡ old)

-- some file has a message that is too long
abbrev pub any_long : List Speaker → List (List Item) → Bool
any_long neighbours files = list_any (long_in neighbours) files

-- what is kept of a recording's files
pub record IsSummed (count skips : ℕ) (long : Bool) (r : Recorded) : Type 0 where
  pub few : count ≤ 65536
  pub skipped : skips ≡ events.skipped r.neighbours r.files
  pub too_long : long ≡ any_long r.neighbours r.files
