-- Turns: events that are appended together or not at all.
use Rattle.std.specs.Prelude.{◌++◌, [], ◌∷◌, Err, List, Ok, Result}
use Rattle.nr_spec_wire.specs.Reading.{◌>>=◌}
use Rattle.nr_spec_log.specs.Chain.{LogEntry}
use Rattle.nr_spec_steps.specs.Events.{Event}
use Rattle.nr_spec_steps.specs.Steps.{Recorder, Spent, core_step}

-- what the events of a turn append, one behind another: all of it or nothing
unfoldable pub turn : Recorder → List LogEntry → List Event → Result (List LogEntry) Spent
turn r log [] = Ok []
turn r log (event ∷ events) = do
  batch ← core_step r log event
  others ← turn r (log ++ batch) events
  Ok (batch ++ others)

-- the log after a turn: one that is refused is dropped whole
abbrev pub with_turn : List LogEntry → Result (List LogEntry) Spent → List LogEntry
with_turn log (Ok batch) = log ++ batch
with_turn log (Err spent) = log

-- the log after turns
unfoldable pub log_after : Recorder → List LogEntry → List (List Event) → List LogEntry
log_after r log [] = log
log_after r log (first ∷ others) = log_after r (with_turn log (turn r log first)) others
