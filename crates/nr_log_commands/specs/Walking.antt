-- How far a walk over the entries of a log has come.
use Rattle.std.specs.Prelude.{◌≡◌, ◌+◌, ◌++◌, ◌≤◌, List, length, ℕ}
use Rattle.nr_spec_log.specs.Chain.{LogEntry}
use Rattle.nr_spec_store.specs.LogFile.{most_log}
use Rattle.nr_heads.specs.Seals.{IsSealingOf, Sealing}

-- some first entries were gone through, and these are left
pub record Sealed (asn : ℕ) (log left : List LogEntry) (s : Sealing) : Type 0 where
  pub done : List LogEntry
  pub split : done ++ left ≡ log
  pub few : length log ≤ most_log
  pub of : IsSealingOf asn done s

-- so many more of the first entries are to be taken
pub record Taken (log taken left : List LogEntry) (more count : ℕ) : Type 0 where
  pub split : taken ++ left ≡ log
  pub number : more + length taken ≡ count
