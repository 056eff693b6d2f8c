use Rattle.nr_laws_log.proofs.EntryLaws.{entries_take}
use Rattle.nr_laws_log.proofs.entries.entries_read_spelled.Goals as goal

pub returns : goal.returns
returns c = entries_take
