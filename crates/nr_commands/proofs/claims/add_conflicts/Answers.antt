use Rattle.std.proofs.Common.{arith}
use Rattle.std.specs.Prelude.{map}
use Rattle.nr_evidence.specs.Views.{claim_of}
use Rattle.nr_commands.proofs.ClaimLemmas.{all_claimed}
use Rattle.nr_commands.proofs.claims.add_conflicts.Goals as goal

pub returns : goal.returns
returns c =
    all_claimed (map claim_of c.loop-mark.claims) (map claim_of c.args.claims.now) c.loop-mark.left c.args.auths.now c.args.marks.now c.loop-mark.mark-index
    (omega (arith, c.loop-mark-test.false)) c.loop-mark.invariant
