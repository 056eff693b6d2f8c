use Rattle.nr_laws_bounds.proofs.RowsFit.{rows_fit}
use Rattle.nr_laws_bounds.proofs.bounds.rows_can_be_stated.Goals as goal

pub returns : goal.returns
returns c = rows_fit
