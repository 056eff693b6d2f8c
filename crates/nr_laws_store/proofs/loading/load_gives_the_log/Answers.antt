use Rattle.nr_laws_store.proofs.LoadLaws.{load_gives}
use Rattle.nr_laws_store.proofs.loading.load_gives_the_log.Goals as goal

pub returns : goal.returns
returns c = load_gives
