use Rattle.nr_laws_accuracy.proofs.Entries.{batch_fits}
use Rattle.nr_laws_accuracy.proofs.batches.batches_fit.Goals as goal

pub returns : goal.returns
returns c = batch_fits
