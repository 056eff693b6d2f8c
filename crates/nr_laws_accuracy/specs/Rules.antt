-- What an event appends, by rules that are read one after another.
use Rattle.std.specs.Prelude.{ℕ, ◌++◌, ◌≡◌, [], ◌∷◌, List, None, Some}
use Rattle.nr_spec_log.specs.Chain.{LogEntry}
use Rattle.nr_spec_entry.specs.Contents.{Checkpoint, Commit, auditor}
use Rattle.nr_spec_counts.specs.Causes.{lowest_overdue}
use Rattle.nr_spec_steps.specs.Events.{Close, Event, time_of}
use Rattle.nr_spec_steps.specs.Steps.{Recorder, body_digest, entry_for, known, made, moment, neighbours_with, told, waits}

-- the COMMIT to a neighbour that is appended next, with the next leaf
abbrev pub next_commit : List LogEntry → ℕ → ℕ → LogEntry
next_commit log now n = made now (Commit n (known log).commits)

-- What is appended while some neighbour is overdue: the COMMIT to the lowest that is, one behind another. Behind them
-- none is overdue.
abbrev pub AreOverdueHeads : ℕ → List LogEntry → List LogEntry → Type 0
AreOverdueHeads now log [] = lowest_overdue (known log) now ≡ None
AreOverdueHeads now log (e ∷ es) =
    (n : ℕ) × (lowest_overdue (known log) now ≡ Some n) × (e ≡ next_commit log now n)
    × AreOverdueHeads now (log ++ e ∷ []) es

-- COMMITs to these, one behind another
abbrev pub heads_to : ℕ → List LogEntry → List ℕ → List LogEntry
heads_to now log [] = []
heads_to now log (n ∷ others) = next_commit log now n ∷ heads_to now (log ++ next_commit log now n ∷ []) others

-- COMMITs to all that wait, lowest first
abbrev pub waiting_heads : ℕ → List LogEntry → List LogEntry
waiting_heads now log = heads_to now log (neighbours_with (waits (known log)))

-- a checkpoint of the state before it
abbrev pub next_checkpoint : List LogEntry → ℕ → LogEntry
next_checkpoint log now = made now (Checkpoint (body_digest log))

-- a checkpoint, and a COMMIT to the auditor
abbrev pub seal_behind : ℕ → List LogEntry → List LogEntry
seal_behind now log =
    next_checkpoint log now ∷ next_commit (log ++ next_checkpoint log now ∷ []) now auditor ∷ []

-- behind these heads, the entry that an event is about; at the end, heads for all who wait still, and the seal
abbrev pub behind_heads : Recorder → List LogEntry → ℕ → List LogEntry → Event → List LogEntry
behind_heads r log now heads (Close time) =
    waiting_heads now (log ++ heads) ++ seal_behind now ((log ++ heads) ++ waiting_heads now (log ++ heads))
behind_heads r log now heads event = entry_for now (told r log event)

-- Before any entry there are the heads of those that are overdue at its time.
pub record IsByRules (r : Recorder) (log : List LogEntry) (event : Event) (batch : List LogEntry) : Type 0 where
  pub heads : List LogEntry
  pub overdue : AreOverdueHeads (moment log (time_of event)) log heads
  pub is : batch ≡ heads ++ behind_heads r log (moment log (time_of event)) heads event
