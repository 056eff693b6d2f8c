use Rattle.nr_laws_right_logs.proofs.Crashing.{absent_right, read_right}
use Rattle.nr_laws_right_logs.proofs.record.logs_that_are_kept.Goals as goal

pub returns-clause-read : goal.returns-clause-read
returns-clause-read c = read_right

pub returns-clause-absent : goal.returns-clause-absent
returns-clause-absent c = absent_right
