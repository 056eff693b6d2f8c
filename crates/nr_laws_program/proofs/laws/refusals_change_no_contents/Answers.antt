use Rattle.nr_laws_program.proofs.FileLaws.{run_refused_contents}
use Rattle.nr_laws_program.proofs.laws.refusals_change_no_contents.Goals as goal

pub returns : goal.returns
returns c = run_refused_contents
