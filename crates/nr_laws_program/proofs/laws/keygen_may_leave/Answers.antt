use Rattle.nr_laws_program.proofs.FileLaws.{run_may_leave}
use Rattle.nr_laws_program.proofs.laws.keygen_may_leave.Goals as goal

pub returns : goal.returns
returns c = run_may_leave
