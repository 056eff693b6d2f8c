use Rattle.nr_laws_program.proofs.FileLaws.{run_spares}
use Rattle.nr_laws_program.proofs.laws.runs_leave_other_files.Goals as goal

pub returns : goal.returns
returns c = run_spares
