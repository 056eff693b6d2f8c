use Rattle.std.proofs.Common.{◌≡◌, ◌++◌, drop}
use Rattle.std.specs.Prelude.{map}
use Rattle.nr_spec_outcome.specs.Report.{broken_claim}
use Rattle.nr_evidence.specs.Views.{claim_of}
use Rattle.nr_runs.specs.Views.{runs_in}
use Rattle.nr_commands.proofs.claims.add_broken.Given as goal

-- The claims so far and those of the runs that are left are those of all.
abbrev pub invariant-loop-run : goal.invariant-loop-run
invariant-loop-run l =
    map claim_of l.claims ++ map broken_claim (runs_in (drop l.run-index l.runs))
    ≡ map claim_of l.fn.claims ++ map broken_claim (runs_in l.runs)
