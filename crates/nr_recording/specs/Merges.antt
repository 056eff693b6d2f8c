-- The file whose next event comes first.
use Rattle.std.specs.Prelude.{◌≡◌, ℕ, ◌+◌, if◌then◌else◌, List, [], ◌∷◌, Option, None, Some, nat_le, get_or, set, take, drop}
use Rattle.nr_spec_steps.specs.Events.{Event, time_of}
use Rattle.nr_spec_recording.specs.Merging as merging
use Rattle.nr_recording.specs.declared.merge.First.{First}

-- the time of the next one
abbrev pub first_time : List Event → Option ℕ
first_time [] = None
first_time (event ∷ events) = Some (time_of event)

-- a file at this place, with its next one's time, beside the soonest of the files after it
abbrev pub sooner : Option First → ℕ → Option ℕ → Option First
sooner later place None = later
sooner None place (Some time) = Some (record { place = place; time = time })
sooner (Some s) place (Some time) = if nat_le time s.time then Some (record { place = place; time = time }) else Some s

-- The file at this place is the first whose next one has the least time; places are counted from `start`.
pub record ComesFirst (s : First) (start : ℕ) (files : List (List Event)) : Type 0 where
  pub gap : ℕ
  pub place : s.place ≡ start + gap
  pub least : merging.least files ≡ Some s.time
  pub first : first_time (get_or files gap []) ≡ Some s.time
  pub chosen : merging.chosen s.time files
      ≡ record { next = take 1 (get_or files gap []); files = set files gap (drop 1 (get_or files gap [])) }

abbrev pub IsSoonest : Option First → ℕ → List (List Event) → Type 0
IsSoonest None start files = merging.least files ≡ None
IsSoonest (Some s) start files = ComesFirst s start files
