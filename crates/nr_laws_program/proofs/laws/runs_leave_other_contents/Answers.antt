use Rattle.nr_laws_program.proofs.FileLaws.{run_holds}
use Rattle.nr_laws_program.proofs.laws.runs_leave_other_contents.Goals as goal

pub returns : goal.returns
returns c = run_holds
