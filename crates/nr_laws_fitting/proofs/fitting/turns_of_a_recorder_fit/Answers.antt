use Rattle.nr_laws_fitting.proofs.Behind.{turns_fit}
use Rattle.nr_laws_fitting.proofs.fitting.turns_of_a_recorder_fit.Goals as goal

pub returns : goal.returns
returns c = turns_fit
