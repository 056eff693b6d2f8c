use Rattle.nr_laws_meaning.proofs.Meant.{neighbours}
use Rattle.nr_laws_meaning.proofs.meaning.neighbours_mean.Goals as goal

pub returns : goal.returns
returns c = neighbours
