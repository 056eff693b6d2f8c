use Rattle.nr_laws_frames.proofs.ItemLaws.{item_takes}
use Rattle.nr_laws_frames.proofs.items.item_reads_spelled.Goals as goal

pub returns : goal.returns
returns c = item_takes
