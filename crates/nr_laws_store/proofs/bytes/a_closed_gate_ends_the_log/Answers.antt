use Rattle.nr_laws_store.proofs.LogLaws.{closed_after}
use Rattle.nr_laws_store.proofs.bytes.a_closed_gate_ends_the_log.Goals as goal

pub returns : goal.returns
returns c = closed_after
