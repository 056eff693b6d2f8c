use Rattle.nr_laws_deliveries.proofs.Shown.{shows}
use Rattle.nr_laws_deliveries.proofs.sending.frame_shows_the_log.Goals as goal

pub returns : goal.returns
returns c = shows
