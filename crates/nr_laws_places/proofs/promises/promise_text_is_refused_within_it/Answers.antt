use Rattle.nr_laws_places.proofs.Within.{file_refused}
use Rattle.nr_laws_places.proofs.promises.promise_text_is_refused_within_it.Goals as goal

pub returns : goal.returns
returns c = file_refused
