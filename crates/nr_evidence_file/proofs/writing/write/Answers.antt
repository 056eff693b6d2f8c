use Rattle.std.proofs.Common.{map, ◌∙◌}
use Rattle.nr_evidence.specs.Views.{claim_of, period_of}
use Rattle.nr_evidence_file.proofs.Files.{pieces_make}
use Rattle.nr_evidence_file.proofs.writing.write.Goals as goal

pub returns : goal.returns
returns c =
    let is = c.in_ok-parts.ensures in
    (c.in_ok-joined.ensures ∙ pieces_make c.in_ok-parts.parts c.args.answer.now c.args.promise.now (period_of c.args.period.now) (map claim_of c.args.claims.now) is, is.fits)
