use Rattle.nr_laws_rules.proofs.Files.{early_end}
use Rattle.nr_laws_rules.proofs.texts.early_end_is_refused_at_the_length.Goals as goal

pub returns : goal.returns
returns c = early_end
