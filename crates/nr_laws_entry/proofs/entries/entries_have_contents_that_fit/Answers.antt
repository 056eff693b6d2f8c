use Rattle.nr_laws_entry.proofs.Made.{entry_fits, entry_made}
use Rattle.nr_laws_entry.proofs.entries.entries_have_contents_that_fit.Goals as goal

pub returns-clause-fits : goal.returns-clause-fits
returns-clause-fits c = entry_fits

pub returns-clause-made : goal.returns-clause-made
returns-clause-made c = entry_made
