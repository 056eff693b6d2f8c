use Rattle.std.proofs.Common.{◌≡◌, ◌≤◌, ◌+◌, ◌++◌, drop, length}
use Rattle.nr_spec_log.specs.Answer.{last_time}
use Rattle.nr_spec_steps.specs.Steps.{commits_to}
use Rattle.nr_recorder.proofs.book.Book.commit.Given as goal

abbrev pub invariant-loop-head : goal.invariant-loop-head
invariant-loop-head l = record {
  entries : l.book ++ commits_to l.now l.next (drop l.head-index l.heads) ≡ l.fn.self ++ commits_to l.now l.leaf l.heads;
  leaf : l.next ≡ l.leaf + l.head-index;
  last : last_time 0 l.book ≤ l.now;
  size : length l.book ≡ length l.fn.self + l.head-index;
}
