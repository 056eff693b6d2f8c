use Rattle.std.proofs.Common.{◌≡◌, ◌++◌, filter}
use Rattle.std.specs.List.{range_with_len}
use Rattle.nr_spec_counts.specs.Tallies.{Tally}
use Rattle.nr_spec_steps.specs.Steps.{is_due}
use Rattle.nr_discipline.specs.Kept.{IsKeptOf}
use Rattle.nr_recorder.proofs.heads.add_due.Given as goal

abbrev pub invariant-loop-n : goal.invariant-loop-n
invariant-loop-n l = (t : Tally) → IsKeptOf t l.counts → l.heads.items ≡ l.initial.heads.items ++ filter (is_due t l.now) (range_with_len 0 l.n)
