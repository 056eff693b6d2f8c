use Rattle.nr_laws_deliveries.proofs.Acked.{fairly}
use Rattle.nr_laws_deliveries.proofs.acknowledging.acknowledges_fairly.Goals as goal

pub returns : goal.returns
returns c = fairly
