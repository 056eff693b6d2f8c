use Rattle.nr_spec_crash.specs.Images.{IsImage}
use Rattle.nr_spec_store.specs.StorePlans.{birth_plan}
use Rattle.nr_laws_crash.proofs.CrashLaws.{since_a_run}
use Rattle.nr_laws_store.proofs.bearing.past_births_are_planned.Goals as goal

pub returns : goal.returns
returns c = λ name asn root old new t u past result image runs was at told since. since_a_run (birth_plan name asn root) old new result t u past (λ m. IsImage m name image) runs was at told since
