-- The events of a recording, and its turns.
use Rattle.std.specs.Prelude.{ℕ, zero, suc, [], ◌∷◌, ◌++◌, List, Option, drop, length, map, nat_lt, option_map, sum, take, unwrap_or}
use Rattle.std.specs.List.{find}
use Rattle.nr_spec_bgp.specs.Records.{Item}
use Rattle.nr_spec_steps.specs.Events.{Begin, Close, Event, FrameCame, Heard, Said, StateChanged, time_of}
use Rattle.nr_spec_steps.specs.Telling.{most_raw}
use Rattle.nr_spec_recording.specs.Merging.{merged}
use Rattle.nr_spec_recording.specs.Records.{Speaker, kept_of, skipped_of}

-- the kept records of all files, in their merged order
unfoldable pub records_in_order : List Speaker → List (List Item) → List Event
records_in_order neighbours files = merged (map (kept_of neighbours) files)

-- how many records aren't kept
unfoldable pub skipped : List Speaker → List (List Item) → ℕ
skipped neighbours files = sum (map (skipped_of neighbours) files)

-- ---- messages that are too long

-- the length of an event's message
abbrev pub raw_length : Event → ℕ
raw_length (Begin time) = 0
raw_length (Heard time n as4 raw) = length raw
raw_length (Said time n as4 raw) = length raw
raw_length (StateChanged time n old new) = 0
raw_length (FrameCame bytes) = 0
raw_length (Close time) = 0

-- the length of the first message that no entry has room for
abbrev pub too_long : List Event → Option ℕ
too_long events = option_map raw_length (find (λ event. nat_lt most_raw (raw_length event)) events)

-- ---- events and turns

-- when a recording begins: with its first record, or without one when it ends
abbrev pub begins : List Event → ℕ → ℕ
begins [] end = end
begins (first ∷ others) end = time_of first

-- The events of a recording: its begin, the kept records, and its close. The close has the time that is given for the
-- end, or 0.
unfoldable pub events_of : List Event → Option ℕ → List Event
events_of records until =
    Begin (begins records (unwrap_or until 0)) ∷ (records ++ Close (unwrap_or until 0) ∷ [])

-- how many events a turn has, but for the last, which may have fewer
abbrev pub turn_size : ℕ
turn_size = 1024

-- so many pieces at most
unfoldable pub cut_by : ℕ → List Event → List (List Event)
cut_by zero events = []
cut_by (suc n) [] = []
cut_by (suc n) (event ∷ events) =
    take turn_size (event ∷ events) ∷ cut_by n (drop turn_size (event ∷ events))

-- the turns of events
unfoldable pub turns_of : List Event → List (List Event)
turns_of events = cut_by (length events) events
