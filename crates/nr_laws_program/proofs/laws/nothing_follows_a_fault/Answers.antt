use Rattle.nr_laws_program.proofs.FileLaws.{run_steps}
use Rattle.nr_laws_program.proofs.laws.nothing_follows_a_fault.Goals as goal

pub returns : goal.returns
returns c = run_steps
