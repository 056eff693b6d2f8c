use Rattle.nr_laws_typing.proofs.Resolving.{named_more}
use Rattle.nr_laws_typing.proofs.resolved.variables_have_different_names.Goals as goal

pub returns : goal.returns
returns c = named_more
