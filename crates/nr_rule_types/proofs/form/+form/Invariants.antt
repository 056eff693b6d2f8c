use Rattle.std.proofs.Common.{◌≡◌}
use Rattle.nr_spec_typing.specs.Forms.{typed}
use Rattle.nr_rule_types.proofs.Walks.{IsSoFar}
use Rattle.nr_rule_types.proofs.form.+form.Given as goal

abbrev pub invariant-each-loop-member : goal.invariant-each-loop-member
invariant-each-loop-member l = record {
  kept : l.scope ≡ l.initial.scope;
  so_far : IsSoFar (λ member. typed member l.initial.scope) l.members l.member-index l.items;
}
