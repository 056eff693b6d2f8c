use Rattle.std.proofs.Common.{[]}
use Rattle.nr_spec_typing.specs.Declarations.{add_member}
use Rattle.nr_rule_types.proofs.Walks.{IsOnItsWay}
use Rattle.nr_rule_types.proofs.group.members.Given as goal

abbrev pub invariant-loop-text : goal.invariant-loop-text
invariant-loop-text l = IsOnItsWay (add_member l.names) [] l.texts l.text-index l.numbers.items
