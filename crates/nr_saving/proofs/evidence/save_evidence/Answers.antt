use Rattle.std.proofs.Common.{◌∙◌}
use Rattle.std.proofs.lemmas.Result.{err_from_is_err_and}
use Rattle.nr_saving.proofs.Pieces.{made, pieces_are, unmade, unwritten}
use Rattle.nr_saving.proofs.evidence.save_evidence.Goals as goal

pub returns-in_err-parts : goal.returns-in_err-parts
returns-in_err-parts g c =
    let p = err_from_is_err_and c.from_residual.result c.from_residual.ensures.1 in
    rw (p.1, p.2) (unmade c.args.name.now _ _ _ c.in_err-parts.ensures)

pub returns-in_err-save_parts : goal.returns-in_err-save_parts
returns-in_err-save_parts g c =
    let p = err_from_is_err_and c.from_residual-in_err-save_parts.result c.from_residual-in_err-save_parts.ensures.1 in
    let is = c.in_ok-parts.ensures in
    let are = pieces_are _ _ _ _ (c.as_slice.ensures.value ∙ is.front) (c.as_slice-2.ensures.value ∙ is.middle) (c.as_slice-3.ensures.value ∙ is.claims_are) in
    rw (p.1, p.2) (unwritten c.args.name.now _ _ _ _ _ are is.fits c.in_err-save_parts.ensures)

pub returns : goal.returns
returns g c =
    let is = c.in_ok-parts.ensures in
    let are = pieces_are _ _ _ _ (c.as_slice.ensures.value ∙ is.front) (c.as_slice-2.ensures.value ∙ is.middle) (c.as_slice-3.ensures.value ∙ is.claims_are) in
    made c.args.name.now _ _ _ _ _ are is.fits c.in_ok-save_parts.ensures
