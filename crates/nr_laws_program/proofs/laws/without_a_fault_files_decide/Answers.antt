use Rattle.nr_laws_program.proofs.FileLaws.{run_ends_as}
use Rattle.nr_laws_program.proofs.laws.without_a_fault_files_decide.Goals as goal

pub returns : goal.returns
returns c = run_ends_as
