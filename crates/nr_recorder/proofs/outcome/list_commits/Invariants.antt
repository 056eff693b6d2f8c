use Rattle.std.proofs.Common.{◌≡◌, ◌+◌, ◌++◌, drop, filter, map, ltb}
use Rattle.nr_spec_steps.specs.Heads.{Committed, numbered}
use Rattle.nr_recorder.specs.Views.{committed_of}
use Rattle.nr_recorder.proofs.outcome.list_commits.Given as goal

abbrev pub invariant-loop-head : goal.invariant-loop-head
invariant-loop-head l = record {
  listed : map committed_of l.commits.items ++ filter (λ (c : Committed). ltb c.neighbour l.count) (numbered l.seq (drop l.head-index l.heads)) ≡ filter (λ (c : Committed). ltb c.neighbour l.count) (numbered l.first l.heads);
  place : l.seq ≡ l.first + l.head-index;
}
