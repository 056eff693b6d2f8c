use Rattle.nr_laws_fitting.proofs.Fits.{recording_fits}
use Rattle.nr_laws_fitting.proofs.fitting.recordings_fit.Goals as goal

pub returns : goal.returns
returns c = recording_fits
