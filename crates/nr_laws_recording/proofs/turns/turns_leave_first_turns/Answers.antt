use Rattle.nr_laws_recording.proofs.Crashing.{turns_crash}
use Rattle.nr_laws_recording.proofs.turns.turns_leave_first_turns.Goals as goal

pub returns : goal.returns
returns c = λ name r log turns image old. turns_crash name r turns image log old
