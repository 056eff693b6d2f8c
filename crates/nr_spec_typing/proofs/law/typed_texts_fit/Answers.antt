use Rattle.nr_spec_typing.proofs.Guaranteed.{typed_texts_fit}
use Rattle.nr_spec_typing.proofs.law.typed_texts_fit.Goals as goal

pub returns : goal.returns
returns c = typed_texts_fit
