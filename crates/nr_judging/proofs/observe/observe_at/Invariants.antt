use Rattle.std.proofs.Common.{◌+◌, ◌≤◌, ◌++◌, List, take}
use Rattle.nr_spec_runs.specs.Runs.{Observation}
use Rattle.nr_runs.specs.Views.{Saw}
use Rattle.nr_judging.specs.Asked.{asked_at, asks}
use Rattle.nr_judging.specs.Views.{mark_of}
use Rattle.nr_judging.proofs.observe.observe_at.Given as goal

abbrev pub invariant-loop-p : goal.invariant-loop-p
invariant-loop-p g l = record {
  counted : l.steps ≤ l.initial.steps + asks l.mark.file l.file l.p-index;
  told : (seen : List Observation) → Saw l.initial.runs seen
      → Saw l.runs (seen ++ asked_at (g.J.Judge.truth l.judge) (mark_of l.mark) l.file l.r l.promise (take l.p-index l.prefixes));
}
