use Rattle.nr_laws_typing.proofs.Treed.{has_tree}
use Rattle.nr_laws_typing.proofs.says.promise_has_the_tree_of_its_text.Goals as goal

pub returns : goal.returns
returns c = has_tree
