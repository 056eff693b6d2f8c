use Rattle.nr_verify_counts.proofs.counts.Counts.lowest_overdue.Given as goal
use Rattle.std.proofs.Common.{◌≡◌, ◌-◌}
use Rattle.std.specs.List.{find, range_with_len}
use Rattle.nr_spec_counts.specs.Tallies.{Tally}
use Rattle.nr_spec_counts.specs.Causes.{is_overdue, lowest_overdue}
use Rattle.nr_verify_counts.specs.Kept.{IsKeptOf}

-- the lowest of all is the lowest of those that are left
abbrev pub invariant-loop-n : goal.invariant-loop-n
invariant-loop-n l = (t : Tally) → IsKeptOf t l.self → find (is_overdue t l.time t.in_force) (range_with_len l.n (256 - l.n)) ≡ lowest_overdue t l.time
