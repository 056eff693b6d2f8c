use Rattle.nr_laws_log.proofs.EntryLaws.{entries_again}
use Rattle.nr_laws_log.proofs.entries.entries_spelled_read.Goals as goal

pub returns : goal.returns
returns c = entries_again
