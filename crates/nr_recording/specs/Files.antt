-- What is told of a file that was read to its end.
use Rattle.std.specs.Prelude.{ℕ, ◌+◌, Bool, ◌||◌, List, [], ◌∷◌, Option, Some, None, Result, Ok, nat_lt, is_some}
use Rattle.nr_spec_wire.specs.Reading.{Read, ◌>>=◌}
use Rattle.nr_spec_bgp.specs.Records.{Item}
use Rattle.nr_spec_steps.specs.Events.{Event}
use Rattle.nr_spec_steps.specs.Telling.{most_raw}
use Rattle.nr_spec_recording.specs.Records.{Speaker, kept, kept_of, skipped_of}
use Rattle.nr_spec_recording.specs.Events.{raw_length, too_long}
use Rattle.nr_recording.specs.declared.file.FileFacts.{FileFacts}

-- some kept message is too long
abbrev pub long_in : List Speaker → List Item → Bool
long_in neighbours items = is_some (too_long (kept_of neighbours items))

abbrev pub facts_of : List Speaker → List Item → FileFacts
facts_of neighbours items = record { skipped = skipped_of neighbours items; too_long = long_in neighbours items }

-- the facts of a file, or the place of its first malformed field
abbrev pub told : List Speaker → Result (List Item) ℕ → Result FileFacts ℕ
told neighbours read = read >>= λ items. Ok (facts_of neighbours items)

-- ---- one record after another

-- no entry has room for the event's message
abbrev pub is_long : Event → Bool
is_long event = nat_lt most_raw (raw_length event)

-- one record more, by the event that it makes where it is kept
abbrev pub counted : FileFacts → Option Event → FileFacts
counted f None = record { skipped = f.skipped + 1; too_long = f.too_long }
counted f (Some event) = record { skipped = f.skipped; too_long = f.too_long || is_long event }

-- these records more
abbrev pub counted_all : List Speaker → FileFacts → List Item → FileFacts
counted_all neighbours f [] = f
counted_all neighbours f (item ∷ items) = counted_all neighbours (counted f (kept neighbours item)) items

-- the records that reading gives, more
abbrev pub counted_to_end : List Speaker → FileFacts → Read (List Item) → Result FileFacts ℕ
counted_to_end neighbours f read = read >>= λ items. Ok (counted_all neighbours f items.0)
