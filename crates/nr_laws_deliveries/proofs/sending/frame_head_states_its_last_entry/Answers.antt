use Rattle.nr_laws_deliveries.proofs.Shown.{signed}
use Rattle.nr_laws_deliveries.proofs.sending.frame_head_states_its_last_entry.Goals as goal

pub returns : goal.returns
returns c = signed
