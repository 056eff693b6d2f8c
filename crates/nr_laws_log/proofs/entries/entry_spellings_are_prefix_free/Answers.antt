use Rattle.std.proofs.Common.{false}
use Rattle.nr_spec_log.specs.Answer.{IsEntry, entry, entry_at}
use Rattle.nr_laws_log.proofs.Fields.{prefix_free}
use Rattle.nr_laws_log.proofs.EntryLaws.{one_again}
use Rattle.nr_laws_log.proofs.entries.entry_spellings_are_prefix_free.Goals as goal

pub returns : goal.returns
returns c = prefix_free (entry_at false 0) IsEntry entry one_again
