use Rattle.nr_laws_bgp.proofs.PathQuestions.{in_order}
use Rattle.nr_laws_bgp.proofs.paths.path_numbers_are_in_order.Goals as goal

pub returns : goal.returns
returns c = in_order
