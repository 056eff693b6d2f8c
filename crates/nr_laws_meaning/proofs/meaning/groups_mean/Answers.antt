use Rattle.nr_laws_meaning.proofs.Meant.{groups}
use Rattle.nr_laws_meaning.proofs.meaning.groups_mean.Goals as goal

pub returns : goal.returns
returns c = groups
