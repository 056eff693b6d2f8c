use Rattle.std.proofs.Common.{◌≡◌, ◌++◌, length}
use Rattle.nr_spec_runs.specs.Runs as spec
use Rattle.nr_runs.specs.Views.{begun, runs_in, still}
use Rattle.nr_runs.proofs.runs.OpenRuns.end_all.Given as goal

abbrev pub invariant-loop-key : goal.invariant-loop-key
invariant-loop-key l = (q : spec.Key) → spec.spans_of q (runs_in l.self-inside.ended.items) ++ still l.time (begun l.self-inside.open.entries q) ≡ spec.spans_of q l.fn.self.ended ++ still l.time (begun l.fn.self.open_at q)

abbrev pub decreases-loop-key : goal.decreases-loop-key
decreases-loop-key l = length l.self-inside.open.entries
