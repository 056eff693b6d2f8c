use Rattle.nr_laws_fitting.proofs.Frameless.{frameless_fit}
use Rattle.nr_laws_fitting.proofs.fitting.turns_without_frames_fit.Goals as goal

pub returns : goal.returns
returns c = frameless_fit
