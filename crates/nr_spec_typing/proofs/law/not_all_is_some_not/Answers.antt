use Rattle.nr_spec_typing.proofs.Meant.{not_all}
use Rattle.nr_spec_typing.proofs.law.not_all_is_some_not.Goals as goal

pub returns : goal.returns
returns c = not_all
