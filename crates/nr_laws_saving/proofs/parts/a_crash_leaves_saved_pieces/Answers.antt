use Rattle.std.specs.List.{concat}
use Rattle.nr_laws_saving.proofs.PartLaws.{parts_saved, save_holds}
use Rattle.nr_laws_saving.proofs.LeftLaws.{saved_rests}
use Rattle.nr_laws_saving.proofs.parts.a_crash_leaves_saved_pieces.Goals as goal

pub returns : goal.returns
returns g c = λ name image parts old new t told runs left. saved_rests name (concat parts) image t new (save_holds name parts old new t told (parts_saved _ name parts old new runs)) left
