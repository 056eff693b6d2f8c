use Rattle.nr_laws_entry.proofs.Made.{makes_entry, makes_bytes, makes_content}
use Rattle.nr_laws_entry.proofs.entries.contents_make_entries.Goals as goal

pub returns-clause-entry : goal.returns-clause-entry
returns-clause-entry c = makes_entry

pub returns-clause-bytes : goal.returns-clause-bytes
returns-clause-bytes c = makes_bytes

pub returns-clause-content : goal.returns-clause-content
returns-clause-content c = makes_content
