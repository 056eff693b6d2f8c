use Rattle.std.proofs.Common.{rules}
use Rattle.std.proofs.lemmas.List.Sorted.{answers_always}
use Rattle.nr_runs.specs.Views.{run_key}
use Rattle.nr_runs.proofs.runs.sort.Goals as goal

pub returns-clause-sorted : goal.returns-clause-sorted
returns-clause-sorted c = c.in_ok-sort_by_key.ensures.sorted run_key (answers_always _ _ _ (λ f a r g called. search rules))

pub returns-clause-stable : goal.returns-clause-stable
returns-clause-stable c = c.sort_by_key.ensures.stable run_key (answers_always _ _ _ (λ f a r g called. search rules))
