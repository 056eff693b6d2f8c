use Rattle.std.proofs.Common.{take, arith}
use Rattle.nr_chain.specs.Views.{entry_of}
use Rattle.nr_spec_steps.specs.Heads.{last_commit}
use Rattle.nr_recorder.proofs.log.Log.last_commit.Goals as goal
use Rattle.nr_recorder.proofs.Commits.{before, here}

pub returns-then-is_commit_to-clause-value : goal.returns-then-is_commit_to-clause-value
returns-then-is_commit_to-clause-value c =
    here c.args.neighbour c.args.self.now c.loop-left.left (entry_of c.at.result) c.is_commit_to.result (last_commit c.args.neighbour (take c.args.count c.args.self.now))
    c.loop-left-test.true c.at.ensures c.is_commit_to.ensures c.if-is_commit_to.true c.loop-left.invariant.same

pub loop-left-preserved : goal.loop-left-preserved
loop-left-preserved c = record {
  same =
      before c.args.neighbour c.args.self.now c.loop-left.left (entry_of c.at.result) c.is_commit_to.result (last_commit c.args.neighbour (take c.args.count c.args.self.now))
      c.loop-left-test.true c.at.ensures c.is_commit_to.ensures c.if-is_commit_to.false c.loop-left.invariant.same;
  low = omega (arith, c.loop-left.invariant.low);
  within = omega (arith, c.loop-left.invariant.within);
}
