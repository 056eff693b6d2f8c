use Rattle.nr_laws_store.proofs.GateLaws.{read_leaves}
use Rattle.nr_laws_store.proofs.appending.reading_after_an_append.Goals as goal

pub returns : goal.returns
returns c = read_leaves
