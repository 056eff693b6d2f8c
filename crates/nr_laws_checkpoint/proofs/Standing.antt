-- The state after entries goes on from the state that the first of them leave.
use Rattle.std.proofs.Common.{◌≡◌, ℕ, List, ◌++◌, sym, ap, ◌∙◌}
use Rattle.nr_spec_log.specs.Chain.{LogEntry}
use Rattle.nr_spec_routes.specs.Keys.{Key, Row, route_in}
use Rattle.nr_spec_routes.specs.Routes.{route_after}
use Rattle.nr_spec_routes.specs.Rows.{rows_after}
use Rattle.nr_spec_routes.proofs.RowsOnce.{rows_are}
use Rattle.nr_spec_counts.specs.Causes.{cause_of}
use Rattle.nr_spec_counts.specs.Tallies.{Numbers, Tally, tally_after}
use Rattle.nr_spec_report.specs.Wrong.{Base, cause_after}
use Rattle.nr_laws_accuracy.proofs.Slices.{rows_append, tally_append}
use Rattle.nr_spec_bodies.specs.Bases.{state_after}

pub state_goes_on : (base : Base) (past later : List LogEntry) → state_after (state_after base past) later ≡ state_after base (past ++ later)
state_goes_on base past later = λ i. record {
  rows = rows_append base.rows past later i;
  tally = sym (tally_append past later base.tally) i;
}

pub rows_go_on : (rows : List Row) (past later : List LogEntry) → rows_after (rows_after rows past) later ≡ rows_after rows (past ++ later)
rows_go_on rows past later = rows_append rows past later

pub counts_go_on : (tally : Tally) (past later : List LogEntry) → tally_after (tally_after tally past) later ≡ tally_after tally (past ++ later)
counts_go_on tally past later = sym (tally_append past later tally)

pub route_goes_on : (base : List Row) (past later : List LogEntry) (key : Key) → route_after (rows_after base past) later key ≡ route_after base (past ++ later) key
route_goes_on base past later key =
    sym (rows_are (rows_after base past) later key)
    ∙ ap (λ (rows : List Row). route_in rows key) (rows_append base past later)
    ∙ rows_are base (past ++ later) key

pub cause_goes_on : (files : List Numbers) (base : Base) (past later : List LogEntry) (seq : ℕ) (e : LogEntry)
    → cause_after files (state_after base past) later seq e ≡ cause_after files base (past ++ later) seq e
cause_goes_on files base past later seq e =
    ap (λ (b : Base). cause_of files b.tally b.rows seq e) (state_goes_on base past later)
