use Rattle.nr_laws_typing.proofs.Noding.{nodes}
use Rattle.nr_laws_typing.proofs.nodes.tree_is_of_its_construct.Goals as goal

pub returns : goal.returns
returns c = nodes
