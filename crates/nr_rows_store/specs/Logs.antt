-- The logs of these rows.
use Rattle.std.specs.Prelude.{◌≡◌, ℕ, [], ◌∷◌, codes}
use Rattle.nr_spec_plans.specs.Disk.{Disk}
use Rattle.nr_spec_log.specs.Chain.{LogEntry}
use Rattle.nr_spec_store.specs.LogFile.{LogFile}
use Rattle.nr_spec_store.specs.StoreCrashes.{Holds}

-- an entry of this time, with a content of one byte
abbrev pub plain : ℕ → LogEntry
plain time = record { time = time; kind = 2; content = 120 ∷ [] }

-- the file holds a log without entries
pub record HasNone (d : Disk) (log : LogFile) : Type 0 where
  pub holds : Holds d (codes "log") log
  pub entries : log.entries ≡ []

-- the file holds a log with three entries of one time
pub record HasThree (d : Disk) (log : LogFile) : Type 0 where
  pub holds : Holds d (codes "log") log
  pub entries : log.entries ≡ plain 1 ∷ plain 1 ∷ plain 1 ∷ []
