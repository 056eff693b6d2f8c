use Rattle.nr_laws_log.proofs.EntryLaws.{entry_again}
use Rattle.nr_laws_log.proofs.entries.entry_spelled_reads.Goals as goal

pub returns : goal.returns
returns c = entry_again
