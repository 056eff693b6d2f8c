use Rattle.nr_laws_typing.proofs.Elsewhere.{file_moved}
use Rattle.nr_laws_typing.proofs.fine.places_are_not_asked.Goals as goal

pub returns : goal.returns
returns c = file_moved
