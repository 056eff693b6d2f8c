-- Merging files of events: again and again the one with the least time among the next ones of each file is taken, and on
-- a tie that of the earlier file.
use Rattle.std.specs.Prelude.{if◌then◌else◌, ℕ, zero, suc, ◌==◌, [], ◌∷◌, ◌++◌, List, None, Option, Some, length, min}
use Rattle.std.specs.List.{flat_map}
use Rattle.nr_spec_steps.specs.Events.{Event, time_of}

abbrev pub sooner : ℕ → Option ℕ → ℕ
sooner time None = time
sooner time (Some other) = min time other

-- the least time of the next ones
unfoldable pub least : List (List Event) → Option ℕ
least [] = None
least ([] ∷ files) = least files
least ((e ∷ es) ∷ files) = Some (sooner (time_of e) (least files))

-- the files without the next one of the first file whose next one has this time, and that one
pub record Choice : Type 0 where
  pub next : List Event
  pub files : List (List Event)

abbrev pub behind : List Event → Choice → Choice
behind file choice = record { next = choice.next; files = file ∷ choice.files }

unfoldable pub chosen : ℕ → List (List Event) → Choice
chosen time [] = record { next = []; files = [] }
chosen time ([] ∷ files) = behind [] (chosen time files)
chosen time ((e ∷ es) ∷ files) =
    if time_of e == time then record { next = e ∷ []; files = es ∷ files } else behind (e ∷ es) (chosen time files)

abbrev pub by_least : Option ℕ → (ℕ → List Event) → List Event
by_least None choose = []
by_least (Some time) choose = choose time

-- so many at most
unfoldable pub merged_by : ℕ → List (List Event) → List Event
merged_by zero files = []
merged_by (suc n) files =
    by_least (least files) (λ time. (chosen time files).next ++ merged_by n (chosen time files).files)

-- how many events the files have
abbrev pub count_in : List (List Event) → ℕ
count_in files = length (flat_map (λ events. events) files)

-- all of them
abbrev pub merged : List (List Event) → List Event
merged files = merged_by (count_in files) files
