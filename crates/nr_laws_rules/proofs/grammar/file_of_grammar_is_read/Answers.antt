use Rattle.nr_laws_rules.proofs.Files.{file_is_read}
use Rattle.nr_laws_rules.proofs.grammar.file_of_grammar_is_read.Goals as goal

pub returns : goal.returns
returns c = file_is_read
