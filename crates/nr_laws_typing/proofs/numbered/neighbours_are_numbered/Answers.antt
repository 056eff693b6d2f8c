use Rattle.nr_laws_typing.proofs.Numbering.{numbered}
use Rattle.nr_laws_typing.proofs.numbered.neighbours_are_numbered.Goals as goal

pub returns : goal.returns
returns c = numbered
