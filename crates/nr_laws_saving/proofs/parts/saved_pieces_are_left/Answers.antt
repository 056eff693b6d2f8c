use Rattle.nr_laws_saving.proofs.PartLaws.{parts_saved, save_holds}
use Rattle.nr_laws_saving.proofs.parts.saved_pieces_are_left.Goals as goal

pub returns : goal.returns
returns g c = λ name parts old new t told runs. let after = save_holds name parts old new t told (parts_saved _ name parts old new runs) in (after.now, after.told, after.saved)
