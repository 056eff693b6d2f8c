use Rattle.std.proofs.Common.{◌≡◌, take}
use Rattle.nr_rule_types.proofs.copy.copy_neighbours.Given as goal

abbrev pub invariant-loop-neighbour : goal.invariant-loop-neighbour
invariant-loop-neighbour l = l.items ≡ take l.neighbour-index l.neighbours
