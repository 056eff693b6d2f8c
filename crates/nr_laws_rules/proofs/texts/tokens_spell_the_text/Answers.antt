use Rattle.nr_laws_rules.proofs.Spelling.{text_spelled}
use Rattle.nr_laws_rules.proofs.texts.tokens_spell_the_text.Goals as goal

pub returns : goal.returns
returns c = text_spelled
