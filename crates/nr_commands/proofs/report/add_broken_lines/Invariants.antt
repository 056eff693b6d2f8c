use Rattle.std.proofs.Common.{◌≡◌, ◌++◌, drop}
use Rattle.std.specs.Prelude.{map}
use Rattle.std.specs.List.{flat_map}
use Rattle.nr_spec_outcome.specs.Lines.{broken_line}
use Rattle.nr_spec_outcome.specs.Outcome.{promise_files}
use Rattle.nr_runs.specs.Views.{runs_in}
use Rattle.nr_audit.specs.Views.{audited_of}
use Rattle.nr_commands.proofs.report.add_broken_lines.Given as goal

-- The lines so far and those of the runs that are left are those of all.
abbrev pub invariant-loop-run : goal.invariant-loop-run
invariant-loop-run l =
    l.out.items ++ flat_map (broken_line (promise_files (map audited_of l.files))) (runs_in (drop l.run-index l.runs))
    ≡ l.fn.out.items ++ flat_map (broken_line (promise_files (map audited_of l.files))) (runs_in l.runs)
