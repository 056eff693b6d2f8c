use Rattle.nr_laws_store.proofs.BirthLaws.{awaits_loads}
use Rattle.nr_laws_store.proofs.LoadLaws.{load_awaits}
use Rattle.nr_laws_store.proofs.loading.load_awaits_birth.Goals as goal

pub returns : goal.returns
returns c = λ name old new t told short runs. let awaits = load_awaits name old new t told short runs in (awaits, λ image left. awaits_loads name image new awaits left)
