use Rattle.nr_laws_batches.proofs.Fuel.{nothing_more}
use Rattle.nr_laws_batches.proofs.batches.entries_end_with_the_bytes.Goals as goal

pub returns : goal.returns
returns c = λ last fuel s new entries enough reads. nothing_more last fuel s new entries enough reads
