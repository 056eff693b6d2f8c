use Rattle.nr_laws_record.proofs.Crashing.{past_crash}
use Rattle.nr_laws_record.proofs.crashes.past_runs_leave_first_turns.Goals as goal

pub returns : goal.returns
returns c = past_crash
