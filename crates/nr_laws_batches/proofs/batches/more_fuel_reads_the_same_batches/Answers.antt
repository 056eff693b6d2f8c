use Rattle.std.proofs.Common.{length, arith}
use Rattle.nr_laws_batches.proofs.Fuel.{enough_for_batches}
use Rattle.nr_laws_batches.proofs.batches.more_fuel_reads_the_same_batches.Goals as goal

pub returns : goal.returns
returns c = λ last fuel s enough. enough_for_batches fuel (length s.rest) last s enough (omega arith)
