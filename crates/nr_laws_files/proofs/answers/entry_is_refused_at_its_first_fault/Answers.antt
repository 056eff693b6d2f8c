use Rattle.nr_laws_files.proofs.EntryCases.{entry_refused}
use Rattle.nr_laws_files.proofs.EntryAgain.{entry_faults}
use Rattle.nr_laws_files.proofs.answers.entry_is_refused_at_its_first_fault.Goals as goal

pub returns-clause-found : goal.returns-clause-found
returns-clause-found c = entry_refused

pub returns-clause-again : goal.returns-clause-again
returns-clause-again c = entry_faults
