use Rattle.std.proofs.Common.{◌≡◌, [], take}
use Rattle.nr_spec_routes.specs.Rows.{rows_after}
use Rattle.nr_spec_steps.specs.Steps.{known}
use Rattle.nr_discipline.specs.Kept.{IsKeptOf}
use Rattle.nr_recorder.proofs.starting.replay.Given as goal

abbrev pub invariant-loop-place : goal.invariant-loop-place
invariant-loop-place l = record {
  routes : l.state ≡ rows_after [] (take l.place l.log);
  counts : IsKeptOf (known (take l.place l.log)) l.counts;
}
