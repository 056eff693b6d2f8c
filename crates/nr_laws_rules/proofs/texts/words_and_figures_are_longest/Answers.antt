use Rattle.nr_laws_rules.proofs.Spelling.{text_longest}
use Rattle.nr_laws_rules.proofs.texts.words_and_figures_are_longest.Goals as goal

pub returns : goal.returns
returns c = text_longest
