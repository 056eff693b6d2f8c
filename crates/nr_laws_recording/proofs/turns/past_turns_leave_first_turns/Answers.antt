use Rattle.nr_laws_recording.proofs.Ended.{past_leaves}
use Rattle.nr_laws_recording.proofs.turns.past_turns_leave_first_turns.Goals as goal

pub returns : goal.returns
returns c = past_leaves
