use Rattle.nr_laws_rules.proofs.Files.{file_is_one}
use Rattle.nr_laws_rules.proofs.grammar.text_has_one_file.Goals as goal

pub returns : goal.returns
returns c = file_is_one
