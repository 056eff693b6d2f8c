use Rattle.nr_laws_meaning.proofs.Settled.{text_settled}
use Rattle.nr_laws_meaning.proofs.stuck.typed_text_is_never_stuck.Goals as goal

pub returns : goal.returns
returns c = text_settled
