use Rattle.nr_laws_record.proofs.Crashing.{run_crash}
use Rattle.nr_laws_record.proofs.crashes.a_crash_leaves_first_turns.Goals as goal

pub returns : goal.returns
returns c = run_crash
