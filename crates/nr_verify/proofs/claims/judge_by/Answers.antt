use Rattle.nr_spec_truth.specs.Truths.{meant}
use Rattle.nr_evidence.specs.Views.{period_of}
use Rattle.nr_verify_runs.specs.Views.{says_in}
use Rattle.nr_verify_heads.specs.Views.{audited_in}
use Rattle.nr_verify.proofs.Judging.{first_so}
use Rattle.nr_verify.proofs.claims.judge_by.Goals as goal

pub mark_claims-requires-clause-first : goal.mark_claims-requires-clause-first
mark_claims-requires-clause-first c =
    let truth = meant (says_in c.args.texts.now) in
    first_so c.args.root.now.0 (audited_in c.args.texts.now) truth c.args.answer.now (period_of c.args.period.now) (rw c.in_ok-check_answer.was at c.check_answer.ensures truth)
