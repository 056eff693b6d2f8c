use Rattle.nr_laws_merging.proofs.Taking.{merged_is}
use Rattle.nr_laws_merging.proofs.merging.merging_takes_the_least.Goals as goal

pub returns : goal.returns
returns c = merged_is
