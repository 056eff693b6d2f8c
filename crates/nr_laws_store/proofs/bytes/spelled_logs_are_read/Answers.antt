use Rattle.nr_laws_store.proofs.LogLaws.{front_decides}
use Rattle.nr_laws_store.proofs.bytes.spelled_logs_are_read.Goals as goal

pub returns : goal.returns
returns c = front_decides
