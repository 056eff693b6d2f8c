use Rattle.nr_laws_outcome.proofs.Told.{lines_among, lines_in_order}
use Rattle.nr_laws_outcome.proofs.broken.a_broken_line_is_that_of_a_broken_row.Goals as goal

pub returns-clause-among : goal.returns-clause-among
returns-clause-among c = lines_among

pub returns-clause-in_order : goal.returns-clause-in_order
returns-clause-in_order c = lines_in_order
