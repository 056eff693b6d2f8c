use Rattle.nr_laws_bgp.proofs.RecordReading.{record_found}
use Rattle.nr_laws_bgp.proofs.records.read_record_is_a_record.Goals as goal

pub returns : goal.returns
returns c = record_found
