use Rattle.nr_laws_saving.proofs.PartLaws.{one_piece}
use Rattle.nr_laws_saving.proofs.parts.a_single_piece_is_saved_whole.Goals as goal

pub returns : goal.returns
returns g c = one_piece _
