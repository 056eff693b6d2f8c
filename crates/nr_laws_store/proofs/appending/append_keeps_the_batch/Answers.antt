use Rattle.nr_laws_store.proofs.GateLaws.{append_keeps}
use Rattle.nr_laws_store.proofs.appending.append_keeps_the_batch.Goals as goal

pub returns : goal.returns
returns c = append_keeps
