use Rattle.nr_laws_store.proofs.GateLaws.{append_writes}
use Rattle.nr_laws_store.proofs.appending.append_fails_by_writing.Goals as goal

pub returns : goal.returns
returns c = append_writes
