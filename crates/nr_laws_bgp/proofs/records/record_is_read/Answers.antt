use Rattle.nr_laws_bgp.proofs.RecordReading.{record_again}
use Rattle.nr_laws_bgp.proofs.records.record_is_read.Goals as goal

pub returns : goal.returns
returns c = record_again
