use Rattle.nr_laws_checkpoint.proofs.Differing.{late_differs}
use Rattle.nr_laws_checkpoint.proofs.slices.a_late_slice_has_other_conflicts.Goals as goal

pub returns : goal.returns
returns c = late_differs
