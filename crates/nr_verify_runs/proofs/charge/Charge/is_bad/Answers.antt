use Rattle.nr_verify_runs.proofs.charge.Charge.is_bad.Goals as goal
use Rattle.std.proofs.Common.{◌≡◌, ℕ, true, false, Option, ap, sym, ◌∙◌, arith}
use Rattle.nr_spec_typing.specs.Meaning.{Scene, holds}
use Rattle.nr_spec_promises.specs.Broken.{is_file}
use Rattle.nr_verify_runs.proofs.Judged.{all_judged, not_judged}
use Rattle.nr_verify_runs.proofs.Stands.{scene_so}

pub returns-then-not-is_judged : goal.returns-then-not-is_judged
returns-then-not-is_judged c base first past h f =
    let j : c.is_judged.result ≡ false = grind arith in
    not_judged _ _ _ (sym (c.is_judged.ensures base first past h) ∙ j)

pub returns : goal.returns
returns c base first past h f =
    let self = c.args.self.now in
    let r : c.is_ruled.result ≡ true = grind arith in
    let j : c.is_judged.result ≡ true = grind arith in
    all_judged _ _ _ _ (ap (λ (o : Option ℕ). is_file o self.file) (sym f) ∙ (sym c.is_ruled.ensures ∙ r)) (sym (c.is_judged.ensures base first past h) ∙ j)
    (c.in_ok-held.ensures ∙ ap (λ (scene : Scene). holds self.neighbours.now scene self.promise.now.form) (scene_so base past self.prefix c.args.routes.now h))
