use Rattle.nr_laws_joining.proofs.Stated.{conflicts_parts}
use Rattle.nr_laws_joining.proofs.joining.conflicts_join.Goals as goal

pub returns : goal.returns
returns c = conflicts_parts
