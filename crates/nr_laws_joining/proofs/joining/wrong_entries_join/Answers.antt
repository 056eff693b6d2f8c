use Rattle.nr_laws_joining.proofs.Told.{wrong_parts}
use Rattle.nr_laws_joining.proofs.joining.wrong_entries_join.Goals as goal

pub returns : goal.returns
returns c = wrong_parts
