use Rattle.nr_spec_runs.proofs.Longest.{exactly}
use Rattle.nr_spec_runs.proofs.laws.runs_are_longest_rows.Goals as goal

pub returns : goal.returns
returns c = exactly
