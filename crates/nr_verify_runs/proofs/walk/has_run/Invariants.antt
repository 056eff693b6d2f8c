use Rattle.nr_verify_runs.proofs.walk.has_run.Given as goal
use Rattle.std.proofs.Common.{◌≡◌}
use Rattle.nr_spec_promises.specs.Files.{first_promised}
use Rattle.nr_verify_runs.specs.Views.{charge_of}
use Rattle.nr_verify_runs.specs.Walked.{Walks}

-- the walk has come so far
abbrev pub invariant-loop-entry : goal.invariant-loop-entry
invariant-loop-entry l = record {
  walks : Walks (charge_of (first_promised l.fn.entries) l.charge) l.fn.entries l.entry-iterator l.walk;
  span : l.walk.watch.span ≡ record { begin = l.begin; end = l.end };
}
