use Rattle.nr_laws_meaning.proofs.Meant.{prefixes_law}
use Rattle.nr_laws_meaning.proofs.meaning.prefixes_mean.Goals as goal

pub returns : goal.returns
returns c = prefixes_law
