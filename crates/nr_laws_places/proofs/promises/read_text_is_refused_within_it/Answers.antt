use Rattle.nr_laws_places.proofs.Within.{typing_refused}
use Rattle.nr_laws_places.proofs.promises.read_text_is_refused_within_it.Goals as goal

pub returns : goal.returns
returns c = typing_refused c.places_are_not_asked.ensures
