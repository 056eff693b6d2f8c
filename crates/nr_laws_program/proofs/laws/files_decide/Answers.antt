use Rattle.nr_laws_program.proofs.FileLaws.{run_ends_by}
use Rattle.nr_laws_program.proofs.laws.files_decide.Goals as goal

pub returns : goal.returns
returns c = run_ends_by
