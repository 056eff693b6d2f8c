use Rattle.nr_laws_typing.proofs.Saying.{text_said}
use Rattle.nr_laws_typing.proofs.says.text_says_what_is_declared.Goals as goal

pub returns : goal.returns
returns c = text_said
