use Rattle.nr_spec_promises.proofs.Rows.{long_rows}
use Rattle.nr_spec_promises.proofs.laws.broken_runs_are_long_rows.Goals as goal

pub returns : goal.returns
returns c = long_rows
