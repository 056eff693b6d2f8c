use Rattle.nr_laws_store.proofs.LogLaws.{front_decides, more_log}
use Rattle.nr_laws_store.proofs.GateLaws.{follows_within}
use Rattle.nr_spec_store.specs.LogFile.{with_batch}
use Rattle.nr_laws_store.proofs.bytes.an_opened_batch_is_read.Goals as goal

pub returns : goal.returns
returns c = λ log entries rest is more within. front_decides (with_batch log entries) rest (more_log log entries is (follows_within log entries is more within))
