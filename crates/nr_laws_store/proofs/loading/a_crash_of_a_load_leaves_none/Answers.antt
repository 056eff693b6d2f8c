use Rattle.nr_laws_store.proofs.LoadLaws.{load_leaves_none}
use Rattle.nr_laws_store.proofs.loading.a_crash_of_a_load_leaves_none.Goals as goal

pub returns : goal.returns
returns c = λ name old image awaits crash. load_leaves_none name image old awaits crash
