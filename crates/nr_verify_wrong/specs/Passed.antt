-- What is kept of the entries that a walk has passed.
use Rattle.std.specs.Prelude.{ℕ, ◌≡◌, ◌+◌, ◌++◌, [], List, length}
use Rattle.nr_spec_log.specs.Chain.{LogEntry}
use Rattle.nr_spec_routes.specs.Keys.{Row}
use Rattle.nr_spec_routes.specs.Routes.{AreRowsAfter}
use Rattle.nr_spec_counts.specs.Tallies.{nothing_yet, tally_after}
use Rattle.nr_verify_counts.specs.Kept.{IsKeptOf, Kept}

-- After `past` of all entries the others are left, so many of them still before the wanted place.
pub record Passed (all past rest : List LogEntry) (wanted left : ℕ) : Type 0 where
  pub split : all ≡ past ++ rest
  pub count : length past + left ≡ wanted

-- These are the counts after what was passed.
pub record Counted (all rest : List LogEntry) (wanted left : ℕ) (k : Kept) : Type 0 where
  pub past : List LogEntry
  pub passed : Passed all past rest wanted left
  pub kept : IsKeptOf (tally_after nothing_yet past) k

-- These are the routes after what was passed.
pub record Routed (all rest : List LogEntry) (wanted left : ℕ) (rows : List Row) : Type 0 where
  pub past : List LogEntry
  pub passed : Passed all past rest wanted left
  pub routes : AreRowsAfter [] past rows
