use Rattle.nr_laws_calls.proofs.Counts.{load_holds}
use Rattle.nr_laws_calls.proofs.calls.a_load_changes_no_contents.Goals as goal

pub returns : goal.returns
returns c = λ name other old new t result told runs. load_holds name other old new t result told runs
