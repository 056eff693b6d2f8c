use Rattle.std.proofs.Common.{◌*◌, ◌≤◌}
use Rattle.nr_exchange.proofs.writing.items_size.Given as goal

-- an item has fewer bytes than 131,072
abbrev pub invariant-loop-i : goal.invariant-loop-i
invariant-loop-i l = l.size ≤ 131072 * l.i
