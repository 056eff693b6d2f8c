use Rattle.nr_laws_fitting.proofs.Recorders.{made_recorder}
use Rattle.nr_laws_fitting.proofs.fitting.files_make_a_recorder.Goals as goal

pub returns : goal.returns
returns c = made_recorder
