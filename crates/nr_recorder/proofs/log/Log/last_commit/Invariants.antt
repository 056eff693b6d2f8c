use Rattle.std.proofs.Common.{◌≡◌, ◌≤◌, length, take}
use Rattle.nr_spec_steps.specs.Heads.{last_commit}
use Rattle.nr_recorder.proofs.log.Log.last_commit.Given as goal

abbrev pub invariant-loop-left : goal.invariant-loop-left
invariant-loop-left l = record {
  same : last_commit l.neighbour (take l.left l.self) ≡ last_commit l.neighbour (take l.count l.self);
  low : l.left ≤ length l.self;
  within : l.left ≤ l.count;
}

abbrev pub decreases-loop-left : goal.decreases-loop-left
decreases-loop-left l = l.left
