-- What is kept beside the entries of a log.
use Rattle.std.specs.Prelude.{[], ◌≡◌, List}
use Rattle.nr_spec_log.specs.Chain.{LogEntry}
use Rattle.nr_spec_log.specs.Answer.{AreEntriesFrom}
use Rattle.nr_spec_routes.specs.Keys.{Row}
use Rattle.nr_spec_routes.specs.Rows.{rows_after}
use Rattle.nr_spec_steps.specs.Steps.{known}
use Rattle.nr_discipline.specs.Kept.{IsKeptOf, Kept}

-- the counts and the routes after the entries, which fit and whose times don't run back
pub record IsBook (log : List LogEntry) (counts : Kept) (routes : List Row) : Type 0 where
  pub counted : IsKeptOf (known log) counts
  pub routed : routes ≡ rows_after [] log
  pub fit : AreEntriesFrom 0 log
