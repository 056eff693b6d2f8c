use Rattle.nr_laws_store.proofs.LoadLaws.{load_leaves}
use Rattle.nr_laws_store.proofs.loading.a_crash_of_a_load_leaves_the_log.Goals as goal

pub returns : goal.returns
returns c = λ name log old image keeps crash. load_leaves name image log old keeps crash
