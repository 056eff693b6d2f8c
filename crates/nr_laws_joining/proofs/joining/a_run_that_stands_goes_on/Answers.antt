use Rattle.nr_laws_joining.proofs.Meeting.{runs_parts}
use Rattle.nr_laws_joining.proofs.joining.a_run_that_stands_goes_on.Goals as goal

pub returns : goal.returns
returns c = runs_parts
