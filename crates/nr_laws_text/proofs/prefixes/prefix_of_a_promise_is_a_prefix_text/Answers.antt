use Rattle.nr_laws_text.proofs.Agree.{taken}
use Rattle.nr_laws_text.proofs.prefixes.prefix_of_a_promise_is_a_prefix_text.Goals as goal

pub returns : goal.returns
returns c = taken
