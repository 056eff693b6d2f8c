use Rattle.nr_laws_deliveries.proofs.Acked.{accepted}
use Rattle.nr_laws_deliveries.proofs.acknowledging.acknowledged_was_accepted.Goals as goal

pub returns : goal.returns
returns c = accepted
