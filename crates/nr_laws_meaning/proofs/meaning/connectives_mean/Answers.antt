use Rattle.nr_laws_meaning.proofs.Meant.{connectives}
use Rattle.nr_laws_meaning.proofs.meaning.connectives_mean.Goals as goal

pub returns : goal.returns
returns c = connectives
