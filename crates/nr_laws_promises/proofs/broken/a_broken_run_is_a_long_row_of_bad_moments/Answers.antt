use Rattle.nr_laws_promises.proofs.Rows.{members_are, rows_are}
use Rattle.nr_laws_promises.proofs.broken.a_broken_run_is_a_long_row_of_bad_moments.Goals as goal

pub returns-clause-among : goal.returns-clause-among
returns-clause-among c = members_are

pub returns-clause-each_once : goal.returns-clause-each_once
returns-clause-each_once c = rows_are
