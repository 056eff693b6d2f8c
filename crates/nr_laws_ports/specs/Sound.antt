-- Files of which what a read gives is one of the things that a crash may leave.
use Rattle.std.specs.Prelude.{List, ℕ}
use Rattle.nr_spec_plans.specs.Disk.{Disk}
use Rattle.nr_spec_crash.specs.Crashes.{IsSound}

-- Under every name the length that a read gives lies between the least and the greatest since the last sync.
abbrev pub AreSound : Disk → Type 0
AreSound d = (name : List ℕ) → IsSound name d
