use Rattle.nr_laws_recording.proofs.Ended.{stop_leaves}
use Rattle.nr_laws_recording.proofs.turns.stopped_turns_leave_first_turns.Goals as goal

pub returns : goal.returns
returns c = stop_leaves
