use Rattle.nr_laws_log.proofs.EntryLaws.{entry_takes}
use Rattle.nr_laws_log.proofs.entries.entry_reads_spelled.Goals as goal

pub returns : goal.returns
returns c = entry_takes
