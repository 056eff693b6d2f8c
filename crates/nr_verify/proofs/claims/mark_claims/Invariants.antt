use Rattle.std.proofs.Common.{◌≡◌, ◌++◌, map}
use Rattle.nr_spec_truth.specs.Truths.{meant}
use Rattle.nr_spec_report.specs.Wrong.{nothing_before}
use Rattle.nr_spec_claims.specs.Claims.{is_true_claim}
use Rattle.nr_evidence.specs.Views.{period_of}
use Rattle.nr_verify_runs.specs.Views.{says_in}
use Rattle.nr_verify_heads.specs.Views.{audited_in}
use Rattle.nr_verify.proofs.claims.mark_claims.Given as goal

-- the marks so far, and those of the claims that are left, are those of all
abbrev pub invariant-loop-claim : goal.invariant-loop-claim
invariant-loop-claim l =
    l.marks.items ++ map (is_true_claim l.root.0 (audited_in l.texts) (meant (says_in l.texts)) nothing_before l.answer (period_of l.period)) l.claim-iterator
    ≡ map (is_true_claim l.root.0 (audited_in l.texts) (meant (says_in l.texts)) nothing_before l.answer (period_of l.period)) l.fn.claims
