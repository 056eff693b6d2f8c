use Rattle.nr_laws_frames.proofs.ItemLaws.{item_again}
use Rattle.nr_laws_frames.proofs.items.item_spelled_reads.Goals as goal

pub returns : goal.returns
returns c = item_again
