-- What stands before the entries that are walked over.
use Rattle.std.specs.Prelude.{◌≡◌, List}
use Rattle.nr_spec_routes.specs.Keys.{Row}
use Rattle.nr_spec_report.specs.Wrong.{Base}
use Rattle.nr_discipline.specs.Kept.{IsKeptOf, Kept}

-- these routes and counts are those of a base
pub record IsBefore (base : Base) (state : List Row) (counts : Kept) : Type 0 where
  pub rows : state ≡ base.rows
  pub kept : IsKeptOf base.tally counts
