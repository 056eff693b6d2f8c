use Rattle.std.proofs.Common.{take}
use Rattle.std.specs.List.{All}
use Rattle.nr_spec_typing.specs.Declarations.{declaration, nothing}
use Rattle.nr_spec_typing.specs.Lengths.{FitsLengths}
use Rattle.nr_rule_types.proofs.Walks.{IsOnItsWay}
use Rattle.nr_rule_types.proofs.declaration.declarations.Given as goal

abbrev pub invariant-loop-decl : goal.invariant-loop-decl
invariant-loop-decl l = IsOnItsWay declaration nothing l.decls l.decl-index l.known × All FitsLengths (take l.decl-index l.decls)
