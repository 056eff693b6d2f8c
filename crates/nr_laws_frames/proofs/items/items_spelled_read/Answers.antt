use Rattle.nr_laws_frames.proofs.ItemLaws.{items_again}
use Rattle.nr_laws_frames.proofs.items.items_spelled_read.Goals as goal

pub returns : goal.returns
returns c = items_again
