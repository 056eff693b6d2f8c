-- Logs in which nothing is wrong, and files that hold such a log.
use Rattle.std.specs.Prelude.{◌≡◌, ◌-◌, ℕ, List, None, Ok, Option, Some, nat_eq}
use Rattle.std.specs.List.{IsDistinct}
use Rattle.nr_spec_plans.specs.Disk.{Disk, Told}
use Rattle.nr_spec_crash.specs.Crashes.{IsSound, IsWithin, MayLeave}
use Rattle.nr_spec_log.specs.Chain.{LogEntry}
use Rattle.nr_spec_counts.specs.Tallies.{Numbers}
use Rattle.nr_spec_store.specs.LogFile.{LogFile, birth_size}
use Rattle.nr_spec_store.specs.StorePlans.{loading}
use Rattle.nr_spec_program.specs.Recording.{entries_in}
use Rattle.nr_laws_accuracy.specs.Allowed.{IsAllowed, leaves_of}
use Rattle.nr_laws_accuracy.specs.Times.{AreOrdered}

-- No entry is wrong for the own promise file, no time runs back, and no two COMMITs have one leaf.
pub record IsRightLog (own : Numbers) (log : List LogEntry) : Type 0 where
  pub allowed : IsAllowed own log
  pub ordered : AreOrdered 0 log
  pub different : IsDistinct nat_eq (leaves_of log)

-- The file loads: as no log, or as one that is right.
pub record HoldsRight (own : Numbers) (file : List ℕ) : Type 0 where
  pub found : Option LogFile
  pub loads : loading file ≡ Ok found
  pub right : IsRightLog own (entries_in found)

-- All that a crash may leave under a name holds a log that is right, and what a read gives is among that.
pub record KeepsRight (own : Numbers) (name : List ℕ) (d : Disk) : Type 0 where
  pub sound : IsSound name d
  pub right : (image : List ℕ) → MayLeave d name image → HoldsRight own image

-- No file has the name, and no crash leaves the bytes of a birth there.
pub record IsAbsent (name : List ℕ) (d : Disk) : Type 0 where
  pub now : Told
  pub told : d.told ≡ Some now
  pub absent : now.holds name ≡ None
  pub sound : IsSound name d
  pub short : IsWithin name (birth_size - 1) d
