use Rattle.nr_laws_frames.proofs.ItemLaws.{items_prefix_free}
use Rattle.nr_laws_frames.proofs.items.item_spellings_are_prefix_free.Goals as goal

pub returns : goal.returns
returns c = items_prefix_free
