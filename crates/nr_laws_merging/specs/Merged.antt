-- Events in the order of time, by what is taken next, and turns that are full.
use Rattle.std.specs.Prelude.{◌≡◌, ◌++◌, ◌<◌, ◌≤◌, ℕ, [], ◌∷◌, List, length}
use Rattle.std.specs.List.{AllByRecursion}
use Rattle.nr_spec_steps.specs.Events.{Event, time_of}
use Rattle.nr_spec_recording.specs.Events.{turn_size}

-- The next one of a file, where there is one, is later than a time.
abbrev pub IsLater : ℕ → List Event → Type 0
IsLater time [] = Unit {0}
IsLater time (e ∷ es) = time < time_of e

-- It isn't sooner.
abbrev pub IsNoSooner : ℕ → List Event → Type 0
IsNoSooner time [] = Unit {0}
IsNoSooner time (e ∷ es) = time ≤ time_of e

-- An event is taken of files: it is the next one of its file, those of the files before that are later, and those of
-- the files behind it aren't sooner.
pub record IsTaken (e : Event) (files left : List (List Event)) : Type 0 where
  pub before : List (List Event)
  pub rest : List Event
  pub behind : List (List Event)
  pub were : files ≡ before ++ (e ∷ rest) ∷ behind
  pub are : left ≡ before ++ rest ∷ behind
  pub earlier : AllByRecursion (IsLater (time_of e)) before
  pub later : AllByRecursion (IsNoSooner (time_of e)) behind

-- These are taken of files one after another, until none is left.
abbrev pub AreMerged : List Event → List (List Event) → Type 0
AreMerged [] files = AllByRecursion (λ file. file ≡ []) files
AreMerged (e ∷ es) files = (left : List (List Event)) × IsTaken e files left × AreMerged es left

-- each turn but the last is full
abbrev pub AreFull : List (List Event) → Type 0
AreFull [] = Unit {0}
AreFull (turn ∷ []) = Unit {0}
AreFull (turn ∷ (next ∷ others)) = (length turn ≡ turn_size) × AreFull (next ∷ others)
