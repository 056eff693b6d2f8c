use Rattle.nr_laws_program.proofs.CollectLaws.{run_collects}
use Rattle.nr_laws_program.proofs.laws.collect_saves_its_heads.Goals as goal

pub returns : goal.returns
returns c = run_collects
