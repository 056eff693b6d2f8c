use Rattle.nr_laws_frames.proofs.ItemLaws.{items_take}
use Rattle.nr_laws_frames.proofs.items.items_read_spelled.Goals as goal

pub returns : goal.returns
returns c = items_take
