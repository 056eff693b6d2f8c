use Rattle.nr_spec_typing.proofs.Differ.{names_differ}
use Rattle.nr_laws_typing.proofs.apart.declared_names_differ.Goals as goal

pub returns : goal.returns
returns c = names_differ
