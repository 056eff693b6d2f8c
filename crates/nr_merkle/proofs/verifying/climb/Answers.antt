use Rattle.std.proofs.Common.{sym, ℕ, ap, ◌+◌, ◌*◌, take, arith, ◌≡◌, ◌-◌, drop}
use Rattle.nr_merkle.proofs.ClimbSteps.{climbed-none, climbed-more}
use Rattle.nr_merkle.proofs.verifying.climb.Goals as goal

pub loop-level-init : goal.loop-level-init
loop-level-init c = sym (climbed-none c.args.leaf_digest.0 c.args.path.now c.args.leaf)

pub loop-level-preserved : goal.loop-level-preserved
loop-level-preserved c =
    let whole : 32 * c.loop-level.level + 32 - 32 * c.loop-level.level ≡ 32 = omega arith in
    climbed-more c.args.leaf_digest.0 c.args.path.now c.loop-level.digest.0 c.node_over-digest.result.0 _ c.args.leaf c.loop-level.level c.loop-level.invariant
    (ap (λ (n : ℕ). take n (drop (32 * c.loop-level.level) c.args.path.now)) whole) c.node_over-digest.ensures
