use Rattle.nr_laws_meaning.proofs.Meant.{asked_of}
use Rattle.nr_laws_meaning.proofs.meaning.routes_are_asked.Goals as goal

pub returns : goal.returns
returns c = asked_of
