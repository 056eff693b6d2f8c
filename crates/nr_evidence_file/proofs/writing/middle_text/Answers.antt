use Rattle.std.proofs.Common.{ℕ, List, ◌++◌, ap, ◌∙◌}
use Rattle.nr_evidence.specs.Views.{period_of}
use Rattle.nr_evidence_file.specs.Writing.{middle_text}
use Rattle.nr_evidence_file.proofs.Pieces.{four}
use Rattle.nr_evidence_file.proofs.writing.middle_text.Goals as goal

pub returns : goal.returns
returns c =
    four c.new-out.result.items _ _ _ _ _ _ _ _ c.in_ok-put_sized.ensures c.in_ok-put_u64.ensures.ok c.in_ok-put_u64-2.ensures.ok c.in_ok-put_u32.ensures.ok
    ∙ ap (λ (o : List ℕ). o ++ middle_text c.args.promise.now (period_of c.args.period.now) c.args.count) c.new-out.ensures.items
