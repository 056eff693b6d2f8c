use Rattle.nr_laws_crash.proofs.SoundLaws.{step_sound}
use Rattle.nr_laws_crash.proofs.images.steps_keep_lengths_between.Goals as goal

pub returns : goal.returns
returns c = λ name action old mid got sound acts. step_sound name action old mid got sound acts
