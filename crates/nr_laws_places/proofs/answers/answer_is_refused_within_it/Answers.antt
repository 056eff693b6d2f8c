use Rattle.nr_laws_places.proofs.Ends.{answer_refused}
use Rattle.nr_laws_places.proofs.answers.answer_is_refused_within_it.Goals as goal

pub returns : goal.returns
returns c = answer_refused
