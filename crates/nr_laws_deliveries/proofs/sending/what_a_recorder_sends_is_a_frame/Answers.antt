use Rattle.nr_laws_deliveries.proofs.Fitting.{frame_fits}
use Rattle.nr_laws_deliveries.proofs.sending.what_a_recorder_sends_is_a_frame.Goals as goal

pub returns : goal.returns
returns c = frame_fits
