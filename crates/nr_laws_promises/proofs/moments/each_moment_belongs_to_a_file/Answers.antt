use Rattle.nr_laws_promises.proofs.InForce.{each_moment_belongs}
use Rattle.nr_laws_promises.proofs.moments.each_moment_belongs_to_a_file.Goals as goal

pub returns : goal.returns
returns c = each_moment_belongs
