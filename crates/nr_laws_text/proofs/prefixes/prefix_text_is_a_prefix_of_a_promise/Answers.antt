use Rattle.nr_laws_text.proofs.Agree.{takes}
use Rattle.nr_laws_text.proofs.prefixes.prefix_text_is_a_prefix_of_a_promise.Goals as goal

pub returns : goal.returns
returns c = takes
