use Rattle.nr_laws_merging.proofs.Cutting.{turns_all, turns_full, turns_sized}
use Rattle.nr_laws_merging.proofs.merging.turns_are_the_events.Goals as goal

pub returns-clause-all : goal.returns-clause-all
returns-clause-all c = turns_all

pub returns-clause-sizes : goal.returns-clause-sizes
returns-clause-sizes c = turns_sized

pub returns-clause-full : goal.returns-clause-full
returns-clause-full c = turns_full
