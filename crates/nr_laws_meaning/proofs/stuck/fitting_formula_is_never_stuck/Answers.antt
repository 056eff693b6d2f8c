use Rattle.nr_laws_meaning.proofs.Settled.{every_settled}
use Rattle.nr_laws_meaning.proofs.stuck.fitting_formula_is_never_stuck.Goals as goal

pub returns : goal.returns
returns c = every_settled
