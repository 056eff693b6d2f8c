use Rattle.nr_laws_accuracy.proofs.Turns.{turn_leaves}
use Rattle.nr_laws_accuracy.proofs.logs.turns_keep_leaves.Goals as goal

pub returns : goal.returns
returns c = turn_leaves
