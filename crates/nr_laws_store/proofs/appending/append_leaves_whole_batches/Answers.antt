use Rattle.nr_laws_store.proofs.GateLaws.{append_leaves}
use Rattle.nr_laws_store.proofs.appending.append_leaves_whole_batches.Goals as goal

pub returns : goal.returns
returns c = λ name log entries image old keeps more crash. append_leaves name log entries image old keeps more crash
