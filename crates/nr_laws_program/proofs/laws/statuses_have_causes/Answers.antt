use Rattle.nr_laws_program.proofs.StatusLaws.{run_caused}
use Rattle.nr_laws_program.proofs.laws.statuses_have_causes.Goals as goal

pub returns : goal.returns
returns c = run_caused
