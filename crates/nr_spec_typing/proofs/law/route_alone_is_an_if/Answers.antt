use Rattle.nr_spec_typing.proofs.Meant.{stands_as_if}
use Rattle.nr_spec_typing.proofs.law.route_alone_is_an_if.Goals as goal

pub returns : goal.returns
returns c = stands_as_if
