-- What is left of a log to which turns were to be appended.
use Rattle.std.specs.Prelude.{◌≡◌, ◌≤◌, ℕ, ◌++◌, List, [], ◌∷◌, Ok, length, take}
use Rattle.nr_spec_log.specs.Chain.{LogEntry}
use Rattle.nr_spec_log.specs.Answer.{AreEntriesFrom, last_time}
use Rattle.nr_spec_store.specs.LogFile.{LogFile}
use Rattle.nr_spec_store.specs.StoreCrashes.{LoadsEntries}
use Rattle.nr_spec_steps.specs.Events.{Event}
use Rattle.nr_spec_steps.specs.Steps.{Recorder}
use Rattle.nr_spec_steps.specs.Turns.{log_after, turn}

-- What each turn appends fits behind the log before it: entries whose times don't run back, nor below that log's last.
abbrev pub TurnsFit : Recorder → List LogEntry → List (List Event) → Type 0
TurnsFit r log [] = Unit {0}
TurnsFit r log (events ∷ others) =
    (batch : List LogEntry) → turn r log events ≡ Ok batch
    → AreEntriesFrom (last_time 0 log) batch × TurnsFit r (log ++ batch) others

-- Each of these turns was done, one behind another: the key was spent in none of them.
abbrev pub AreDone : Recorder → List LogEntry → List (List Event) → Type 0
AreDone r log [] = Unit {0}
AreDone r log (events ∷ others) =
    (batch : List LogEntry) × (turn r log events ≡ Ok batch) × AreDone r (log ++ batch) others

-- The file loads as the log with all that some first turns append, each of which was done.
pub record LoadsFirstTurns (file : List ℕ) (r : Recorder) (log : LogFile) (turns : List (List Event)) : Type 0 where
  pub count : ℕ
  pub within : count ≤ length turns
  pub done : AreDone r log.entries (take count turns)
  pub loads : LoadsEntries file log (log_after r log.entries (take count turns))
