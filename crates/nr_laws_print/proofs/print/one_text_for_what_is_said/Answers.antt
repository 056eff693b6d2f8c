use Rattle.nr_laws_print.proofs.BareTexts.{same_text, same_file}
use Rattle.nr_laws_print.proofs.print.one_text_for_what_is_said.Goals as goal

pub returns-clause-same_text : goal.returns-clause-same_text
returns-clause-same_text c = same_text

pub returns-clause-same_file : goal.returns-clause-same_file
returns-clause-same_file c = same_file
