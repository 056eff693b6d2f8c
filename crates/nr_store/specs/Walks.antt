-- Words of walks over a log: what is kept of entries and batches that were read, and what is left to give.
use Rattle.std.specs.Prelude.{ℕ, ◌^◌, ◌<◌, List, [], ◌∷◌, ◌++◌, length, Option, Some, None, Result, Ok, Err}
use Rattle.nr_spec_wire.specs.Reading.{Spot, Read, ◌>>=◌}
use Rattle.nr_spec_log.specs.Chain.{LogEntry}
use Rattle.nr_spec_log.specs.Answer.{last_time}
use Rattle.nr_spec_store.specs.LogFile.{LogFile, entries_of, entries_to_end, batches_at}

-- the entries of a log that was read, none where there is no log
abbrev pub entries_in : Result (Option LogFile) ℕ → List LogEntry
entries_in (Ok (Some log)) = log.entries
entries_in (Ok None) = []
entries_in (Err place) = []

-- the time of the last of the entries that were read, and where reading stands
abbrev pub last_after : ℕ → Read (List LogEntry) → Result ℕ ℕ
last_after before read = read >>= λ es. Ok (last_time before es.0)

abbrev pub ended : ℕ → Read (List LogEntry) → Read ℕ
ended before read = read >>= λ es. Ok (last_time before es.0, es.1)

-- where batches end
abbrev pub end_of : Read (List (List LogEntry)) → Result ℕ ℕ
end_of read = read >>= λ bs. Ok bs.1.at

-- the entries of a part, with those of the batches after it
abbrev pub joined : (last : ℕ) → Read (List LogEntry) → (ℕ → Read (List (List LogEntry))) → Read (List LogEntry)
joined last part batches = part >>= λ es. batches (last_time last es.0) >>= λ bs. Ok (es.0 ++ entries_of bs.0, bs.1)

abbrev pub left_at : (last n : ℕ) (part : Spot) (fuel : ℕ) (beyond : Spot) → Read (List LogEntry)
left_at last n part fuel beyond = joined last (entries_to_end last n part) (λ time. batches_at time fuel beyond)

-- each content has a length of two bytes
abbrev pub HaveSizes : List LogEntry → Type 0
HaveSizes [] = Unit {0}
HaveSizes (e ∷ es) = (length e.content < 2 ^ 16) × HaveSizes es
