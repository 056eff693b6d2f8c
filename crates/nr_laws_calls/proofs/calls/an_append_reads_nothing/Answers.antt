use Rattle.nr_laws_calls.proofs.Counts.{append_counts}
use Rattle.nr_laws_calls.proofs.calls.an_append_reads_nothing.Goals as goal

pub returns : goal.returns
returns c = append_counts
