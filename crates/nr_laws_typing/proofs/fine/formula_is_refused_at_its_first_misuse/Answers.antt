use Rattle.nr_laws_typing.proofs.Used.{formula_told}
use Rattle.nr_laws_typing.proofs.fine.formula_is_refused_at_its_first_misuse.Goals as goal

pub returns : goal.returns
returns c = formula_told
