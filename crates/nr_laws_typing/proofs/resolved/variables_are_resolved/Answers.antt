use Rattle.nr_laws_typing.proofs.Resolving.{resolves}
use Rattle.nr_laws_typing.proofs.resolved.variables_are_resolved.Goals as goal

pub returns : goal.returns
returns c = resolves
