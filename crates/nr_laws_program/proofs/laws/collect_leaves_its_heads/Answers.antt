use Rattle.nr_laws_program.proofs.CollectLaws.{run_heads_left}
use Rattle.nr_laws_program.proofs.laws.collect_leaves_its_heads.Goals as goal

pub returns : goal.returns
returns c = run_heads_left
