-- What files hold of a log while it is recorded or answered.
use Rattle.std.specs.Prelude.{◌≡◌, List, None, Option, Some, Ok, ℕ}
use Rattle.nr_spec_plans.specs.Disk.{Disk, Told, bytes_of}
use Rattle.nr_spec_store.specs.LogFile.{LogFile, log_of}
use Rattle.nr_spec_store.specs.StoreCrashes.{Keeps}

-- Where the files tell what they hold, this log is under the name, and a crash leaves that; or there is none.
abbrev pub HasLog : Disk → (name : List ℕ) → Option LogFile → Type 0
HasLog d name None = (t : Told) → d.told ≡ Some t → log_of (bytes_of (t.holds name)) ≡ Ok None
HasLog d name (Some log) = (t : Told) → d.told ≡ Some t → Keeps d name log
