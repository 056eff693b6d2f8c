use Rattle.nr_laws_typing.proofs.Meaning.{are_declared}
use Rattle.nr_laws_typing.proofs.meanings.names_are_what_is_declared.Goals as goal

pub returns : goal.returns
returns c = are_declared
