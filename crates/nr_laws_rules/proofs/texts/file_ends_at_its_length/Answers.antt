use Rattle.nr_laws_rules.proofs.Files.{read_ends}
use Rattle.nr_laws_rules.proofs.texts.file_ends_at_its_length.Goals as goal

pub returns : goal.returns
returns c = read_ends
