use Rattle.nr_laws_store.proofs.BirthLaws.{birth_read_leaves}
use Rattle.nr_laws_store.proofs.bearing.reading_after_a_birth.Goals as goal

pub returns : goal.returns
returns c = birth_read_leaves
