use Rattle.nr_laws_store.proofs.BirthLaws.{birth_unrefused}
use Rattle.nr_laws_store.proofs.bearing.a_birth_is_not_refused.Goals as goal

pub returns : goal.returns
returns c = birth_unrefused
