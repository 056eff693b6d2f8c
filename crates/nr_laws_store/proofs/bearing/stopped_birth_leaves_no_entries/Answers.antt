use Rattle.nr_laws_store.proofs.BirthLaws.{birth_stop_leaves}
use Rattle.nr_laws_store.proofs.bearing.stopped_birth_leaves_no_entries.Goals as goal

pub returns : goal.returns
returns c = birth_stop_leaves
