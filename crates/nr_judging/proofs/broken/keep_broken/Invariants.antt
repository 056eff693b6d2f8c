use Rattle.std.proofs.Common.{◌≡◌, filter, take}
use Rattle.nr_spec_promises.specs.Broken.{is_broken}
use Rattle.nr_runs.specs.Views.{run_of}
use Rattle.nr_judging.specs.Views.{files_in}
use Rattle.nr_judging.proofs.broken.keep_broken.Given as goal

abbrev pub invariant-loop-run : goal.invariant-loop-run
invariant-loop-run l = l.kept.items ≡ filter (λ r. is_broken (files_in l.files) (run_of r).key (run_of r).span) (take l.run-index l.runs)
