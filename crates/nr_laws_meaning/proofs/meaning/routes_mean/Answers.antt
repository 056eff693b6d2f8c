use Rattle.nr_laws_meaning.proofs.Meant.{routes}
use Rattle.nr_laws_meaning.proofs.meaning.routes_mean.Goals as goal

pub returns : goal.returns
returns c = routes
