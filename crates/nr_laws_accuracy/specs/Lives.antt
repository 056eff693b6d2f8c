-- The logs that a recorder has, one after another, whatever becomes of its turns.
use Rattle.std.specs.Prelude.{◌++◌, ◌≡◌, ◌⊎◌, [], ◌∷◌, List, Ok}
use Rattle.nr_spec_log.specs.Chain.{LogEntry}
use Rattle.nr_spec_steps.specs.Events.{Event}
use Rattle.nr_spec_steps.specs.Steps.{Recorder}
use Rattle.nr_spec_steps.specs.Turns.{turn}
use Rattle.nr_spec_steps.specs.Telling.{MayAllCome}

-- the log with the whole batch of a turn that was done
pub record Turned (r : Recorder) (log next : List LogEntry) : Type 0 where
  pub events : List Event
  pub batch : List LogEntry
  pub may : MayAllCome r log events
  pub done : turn r log events ≡ Ok batch
  pub is : next ≡ log ++ batch

-- A step of a recorder leaves the log before it, or that log with the whole batch of a turn: so does a turn, done or
-- refused, a stop at any moment of a turn, and reading the log again.
abbrev pub Follows : Recorder → List LogEntry → List LogEntry → Type 0
Follows r log next = (next ≡ log) ⊎ Turned r log next

-- each of these follows the one before it, and the first follows this log
abbrev pub AreLivesFrom : Recorder → List LogEntry → List (List LogEntry) → Type 0
AreLivesFrom r log [] = Unit {0}
AreLivesFrom r log (next ∷ others) = Follows r log next × AreLivesFrom r next others
