use Rattle.std.proofs.Common.{◌≡◌, ◌+◌, ◌≤◌, ◌++◌, List, length, take}
use Rattle.nr_spec_runs.specs.Runs.{Observation}
use Rattle.nr_runs.specs.Views.{Saw}
use Rattle.nr_judging.specs.Asked.{asked_from, times_asked}
use Rattle.nr_judging.specs.Views.{files_in, mark_of}
use Rattle.nr_judging.proofs.observe.observe_all.Given as goal

abbrev pub invariant-loop-file : goal.invariant-loop-file
invariant-loop-file g l = record {
  counted : l.steps ≤ l.initial.steps + times_asked l.mark.file (length l.prefixes) 0 (files_in (take l.file-index l.files));
  number : l.number ≡ l.file-index;
  told : (seen : List Observation) → Saw l.initial.runs seen
      → Saw l.runs (seen ++ asked_from (g.J.Judge.truth l.judge) (record { mark = mark_of l.mark; prefixes = l.prefixes; every = l.every }) 0 (files_in (take l.file-index l.files)));
}
