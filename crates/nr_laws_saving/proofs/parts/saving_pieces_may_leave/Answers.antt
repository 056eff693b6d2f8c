use Rattle.nr_laws_saving.proofs.LeftLaws.{save_leaves}
use Rattle.nr_laws_saving.proofs.parts.saving_pieces_may_leave.Goals as goal

pub returns : goal.returns
returns g c = λ name parts old new t result told runs. let after = save_leaves _ name parts old new t result told runs in (after.now, after.told, after.left)
