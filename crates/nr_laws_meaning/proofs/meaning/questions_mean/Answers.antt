use Rattle.nr_laws_meaning.proofs.Meant.{of_route}
use Rattle.nr_laws_meaning.proofs.meaning.questions_mean.Goals as goal

pub returns : goal.returns
returns c = of_route
