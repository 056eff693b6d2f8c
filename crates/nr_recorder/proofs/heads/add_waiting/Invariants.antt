use Rattle.std.proofs.Common.{◌≡◌, ◌++◌, ◌&&◌, filter, not}
use Rattle.std.specs.List.{range_with_len}
use Rattle.nr_spec_counts.specs.Tallies.{Tally}
use Rattle.nr_spec_steps.specs.Steps.{is_due, waits}
use Rattle.nr_discipline.specs.Kept.{IsKeptOf}
use Rattle.nr_recorder.proofs.heads.add_waiting.Given as goal

abbrev pub invariant-loop-n : goal.invariant-loop-n
invariant-loop-n l = (t : Tally) → IsKeptOf t l.counts → l.heads.items ≡ l.initial.heads.items ++ filter (λ n. waits t n && not (is_due t l.now n)) (range_with_len 0 l.n)
