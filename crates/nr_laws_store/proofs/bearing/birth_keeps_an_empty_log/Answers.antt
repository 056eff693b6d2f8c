use Rattle.nr_laws_store.proofs.BirthLaws.{birth_keeps}
use Rattle.nr_laws_store.proofs.bearing.birth_keeps_an_empty_log.Goals as goal

pub returns : goal.returns
returns c = birth_keeps
