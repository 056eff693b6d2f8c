-- The COMMITs of a log by the numbers of their entries, which begin with 1.
use Rattle.std.specs.Prelude.{◌≡◌, ◌<◌, ℕ, zero, suc, List, Some, slice_get}
use Rattle.nr_spec_log.specs.Chain.{LogEntry}
use Rattle.nr_spec_entry.specs.Contents.{Commit}
use Rattle.nr_spec_entry.specs.ContentReading.{content_of}

-- It is the entry of this number.
abbrev pub IsEntryAt : List LogEntry → ℕ → LogEntry → Type 0
IsEntryAt log zero e = ⊥
IsEntryAt log (suc place) e = slice_get log place ≡ Some e

-- The entry of this number is a COMMIT to n, with this leaf.
pub record IsCommit (n : ℕ) (log : List LogEntry) (seq leaf : ℕ) : Type 0 where
  pub entry : LogEntry
  pub of_log : IsEntryAt log seq entry
  pub content : content_of entry ≡ Some (Commit n leaf)

-- It is one, and no later entry is a COMMIT to n.
pub record IsLastCommit (n : ℕ) (log : List LogEntry) (seq leaf : ℕ) : Type 0 where
  pub is_one : IsCommit n log seq leaf
  pub no_later : (later leaf : ℕ) → seq < later → IsCommit n log later leaf → ⊥

-- No entry is a COMMIT to n.
abbrev pub HasNoCommit : ℕ → List LogEntry → Type 0
HasNoCommit n log = (seq leaf : ℕ) → IsCommit n log seq leaf → ⊥
