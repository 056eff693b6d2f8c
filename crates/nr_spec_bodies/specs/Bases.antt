-- What stands before the entries of a slice, and its body.
use Rattle.std.specs.Prelude.{ℕ, ◌<◌, ◌^◌, List, length}
use Rattle.nr_spec_log.specs.Chain.{LogEntry}
use Rattle.nr_spec_routes.specs.Rows.{rows_after}
use Rattle.nr_spec_counts.specs.Tallies.{tally_after}
use Rattle.nr_spec_counts.specs.Bodies.{checkpoint_body}
use Rattle.nr_spec_bounds.specs.Bounds.{AreRows, IsTally}
use Rattle.nr_spec_report.specs.Wrong.{Base}

-- the spelling of a base as the body of a checkpoint
abbrev pub body_of : Base → List ℕ
body_of b = checkpoint_body b.tally b.rows

-- what has a spelling as a body: counts and rows that can be stated, and a number of rows that has eight bytes
pub record IsBase (b : Base) : Type 0 where
  pub tally : IsTally b.tally
  pub rows : AreRows b.rows
  pub few : length b.rows < 2 ^ 64

-- what stands before the entries that follow these, from what stood before these
abbrev pub state_after : Base → List LogEntry → Base
state_after base entries =
    record { rows = rows_after base.rows entries; tally = tally_after base.tally entries }
