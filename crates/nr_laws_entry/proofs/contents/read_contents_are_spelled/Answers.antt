use Rattle.nr_laws_entry.proofs.Found.{content_found}
use Rattle.nr_laws_entry.proofs.contents.read_contents_are_spelled.Goals as goal

pub returns : goal.returns
returns c = content_found
