use Rattle.nr_laws_meaning.proofs.Meant.{comparisons}
use Rattle.nr_laws_meaning.proofs.meaning.comparisons_mean.Goals as goal

pub returns : goal.returns
returns c = comparisons
