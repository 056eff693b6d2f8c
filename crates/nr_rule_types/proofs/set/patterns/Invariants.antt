use Rattle.std.proofs.Common.{take}
use Rattle.std.specs.List.{All}
use Rattle.nr_spec_typing.specs.Declarations.{pattern}
use Rattle.nr_spec_typing.specs.Lengths.{FitsLength}
use Rattle.nr_rule_types.proofs.Walks.{IsSoFar}
use Rattle.nr_rule_types.proofs.set.patterns.Given as goal

abbrev pub invariant-loop-text : goal.invariant-loop-text
invariant-loop-text l = IsSoFar pattern l.texts l.text-index l.patterns.items × All FitsLength (take l.text-index l.texts)
