-- What a crash may leave of a log's file.
use Rattle.std.specs.Prelude.{◌≡◌, ◌⊎◌, ◌-◌, List, Some, None, Ok, ℕ}
use Rattle.nr_spec_plans.specs.Disk.{Disk, Told, bytes_of}
use Rattle.nr_spec_crash.specs.Crashes.{Rests, IsWithin}
use Rattle.nr_spec_log.specs.Chain.{LogEntry}
use Rattle.nr_spec_store.specs.LogFile.{LogFile, IsLog, log_of, with_batch, birth_size}
use Rattle.nr_spec_store.specs.StorePlans.{loading}

-- The file holds the log with these entries, after whatever closed gate.
pub record HoldsEntries (file : List ℕ) (log : LogFile) (entries : List LogEntry) : Type 0 where
  pub front : List ℕ
  pub holds : log_of file ≡ Ok (Some (record { asn = log.asn; root = log.root; entries = entries; front = front }))

-- The file loads as the log with these entries, after whatever closed gate.
pub record LoadsEntries (file : List ℕ) (log : LogFile) (entries : List LogEntry) : Type 0 where
  pub front : List ℕ
  pub loads : loading file ≡ Ok (Some (record { asn = log.asn; root = log.root; entries = entries; front = front }))

-- It loads as the entries before, or as those with the whole batch.
abbrev pub IsBeforeOrAfter : LogFile → List LogEntry → List ℕ → Type 0
IsBeforeOrAfter log entries file =
    LoadsEntries file log log.entries ⊎ (loading file ≡ Ok (Some (with_batch log entries)))

-- It loads as no log, or as one without entries.
abbrev pub IsUnbornOrBorn : LogFile → List ℕ → Type 0
IsUnbornOrBorn log file = (loading file ≡ Ok None) ⊎ (loading file ≡ Ok (Some log))

-- What a read gives under this name loads as a log. A crash may leave something else.
pub record Holds (d : Disk) (name : List ℕ) (log : LogFile) : Type 0 where
  pub now : Told
  pub told : d.told ≡ Some now
  pub is_log : IsLog log
  pub loads : loading (bytes_of (now.holds name)) ≡ Ok (Some log)

-- Under this name is what loads as a log, and a crash leaves that and nothing else.
pub record Keeps (d : Disk) (name : List ℕ) (log : LogFile) : Type 0 where
  pub file : List ℕ
  pub rests : Rests d name file
  pub is_log : IsLog log
  pub loads : loading file ≡ Ok (Some log)

-- what a load leaves that found no log: a file that rests and loads as none, or one of which neither a read nor a crash
-- gives the bytes of a birth
abbrev pub AwaitsBirth : Disk → (name : List ℕ) → Type 0
AwaitsBirth d name = ((file : List ℕ) × Rests d name file × (loading file ≡ Ok None)) ⊎ IsWithin name (birth_size - 1) d
