use Rattle.std.proofs.Common.{◌≡◌, ◌+◌, ◌*◌, ◌≤◌, ◌++◌, Bool, List, length, take}
use Rattle.nr_spec_runs.specs.Runs.{Observation}
use Rattle.nr_runs.specs.Views.{Saw}
use Rattle.nr_judging.specs.Asked.{asked_in, asks}
use Rattle.nr_judging.specs.Views.{mark_of}
use Rattle.nr_judging.proofs.observe.observe_in.Given as goal

abbrev pub invariant-loop-promise : goal.invariant-loop-promise
invariant-loop-promise g l = record {
  counted : l.steps ≤ l.initial.steps + asks l.mark.file l.file (l.promise-index * length l.prefixes);
  number : l.r ≡ l.promise-index;
  told : (every : Bool) (seen : List Observation) → Saw l.initial.runs seen
      → Saw l.runs (seen ++ asked_in (g.J.Judge.truth l.judge) (record { mark = mark_of l.mark; prefixes = l.prefixes; every = every }) l.file 0 (take l.promise-index l.promises));
}
