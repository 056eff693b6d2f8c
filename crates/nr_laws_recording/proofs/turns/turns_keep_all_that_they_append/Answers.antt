use Rattle.nr_laws_recording.proofs.Ended.{turns_ok}
use Rattle.nr_laws_recording.proofs.turns.turns_keep_all_that_they_append.Goals as goal

pub returns : goal.returns
returns c = λ name r log longer turns. turns_ok name r turns log longer
