use Rattle.nr_laws_saving.proofs.PartLaws.{parts_saved}
use Rattle.nr_laws_saving.proofs.parts.pieces_were_saved.Goals as goal

pub returns : goal.returns
returns g c = parts_saved _
