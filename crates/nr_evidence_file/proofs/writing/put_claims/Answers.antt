use Rattle.std.proofs.Common.{sym}
use Rattle.nr_spec_evidence.specs.Evidence.{claim_bytes}
use Rattle.nr_evidence.specs.Views.{claim_of}
use Rattle.nr_evidence_file.proofs.Pieces.{one_more}
use Rattle.nr_evidence_file.proofs.writing.put_claims.Goals as goal

pub loop-at-preserved : goal.loop-at-preserved
loop-at-preserved c = one_more (λ x. claim_bytes (claim_of x)) c.args.out.now.items c.loop-at.out.items c.put_claim.new.out.items c.args.claims.now c.loop-at.at c.in-Some.claim (sym c.in-Some.ensures) c.loop-at.invariant c.in_ok-put_claim-in-Some.ensures
