use Rattle.nr_laws_store.proofs.LoadLaws.{load_keeps}
use Rattle.nr_laws_store.proofs.loading.load_keeps_the_log.Goals as goal

pub returns : goal.returns
returns c = load_keeps
