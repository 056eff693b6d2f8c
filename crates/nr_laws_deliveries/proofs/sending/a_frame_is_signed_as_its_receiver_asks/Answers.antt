use Rattle.nr_laws_deliveries.proofs.Ends.{signed_end}
use Rattle.nr_laws_deliveries.proofs.sending.a_frame_is_signed_as_its_receiver_asks.Goals as goal

pub returns : goal.returns
returns c = signed_end
