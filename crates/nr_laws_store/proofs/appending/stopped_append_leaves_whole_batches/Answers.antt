use Rattle.nr_laws_store.proofs.GateLaws.{stop_leaves}
use Rattle.nr_laws_store.proofs.appending.stopped_append_leaves_whole_batches.Goals as goal

pub returns : goal.returns
returns c = stop_leaves
