use Rattle.nr_laws_store.proofs.GateLaws.{append_refused}
use Rattle.nr_laws_store.proofs.appending.a_refused_append_does_nothing.Goals as goal

pub returns : goal.returns
returns c = append_refused
