use Rattle.nr_laws_saving.proofs.LeftLaws.{save_crash}
use Rattle.nr_laws_saving.proofs.parts.a_crash_leaves_no_more.Goals as goal

pub returns : goal.returns
returns g c = save_crash _
