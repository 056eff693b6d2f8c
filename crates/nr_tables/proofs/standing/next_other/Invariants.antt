use Rattle.std.proofs.Common.{◌≡◌, length}
use Rattle.nr_tables.specs.Others.{others, prefixes_of}
use Rattle.nr_tables.proofs.standing.next_other.Given as goal

-- what was passed over repeats the last one
abbrev pub invariant-loop-key : goal.invariant-loop-key
invariant-loop-key l = others l.last (prefixes_of l.fn.rows) ≡ others l.last (prefixes_of l.rows)

abbrev pub decreases-loop-key : goal.decreases-loop-key
decreases-loop-key l = length l.rows
