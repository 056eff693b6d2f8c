use Rattle.nr_laws_rules.proofs.Files.{read_is_file}
use Rattle.nr_laws_rules.proofs.grammar.read_file_is_of_grammar.Goals as goal

pub returns : goal.returns
returns c = read_is_file
