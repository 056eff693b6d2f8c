use Rattle.nr_laws_program.proofs.FileLaws.{run_left}
use Rattle.nr_laws_program.proofs.laws.keygen_leaves_its_key.Goals as goal

pub returns : goal.returns
returns c = run_left
