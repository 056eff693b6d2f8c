use Rattle.nr_laws_bgp.proofs.PathQuestions.{crossed, crosses_it}
use Rattle.nr_laws_bgp.proofs.paths.crossed_is_in_a_segment.Goals as goal

pub returns-clause-crossed : goal.returns-clause-crossed
returns-clause-crossed c = crossed

pub returns-clause-crosses : goal.returns-clause-crosses
returns-clause-crosses c = crosses_it
