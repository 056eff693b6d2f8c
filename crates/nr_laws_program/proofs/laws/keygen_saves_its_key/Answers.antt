use Rattle.nr_laws_program.proofs.FileLaws.{run_saves}
use Rattle.nr_laws_program.proofs.laws.keygen_saves_its_key.Goals as goal

pub returns : goal.returns
returns c = run_saves
