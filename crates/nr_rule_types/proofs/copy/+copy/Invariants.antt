use Rattle.std.proofs.Common.{◌≡◌, take}
use Rattle.nr_rule_types.proofs.copy.+copy.Given as goal

abbrev pub invariant-copy_members-loop-member : goal.invariant-copy_members-loop-member
invariant-copy_members-loop-member l = l.items ≡ take l.member-index l.members
