use Rattle.nr_laws_typing.proofs.Resolving.{is_next}
use Rattle.nr_laws_typing.proofs.resolved.bound_variable_is_the_next.Goals as goal

pub returns : goal.returns
returns c = is_next
