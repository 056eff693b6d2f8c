-- A promise means its formula.
use Rattle.std.proofs.Common.{◌≡◌, ℕ, List, Some, ap, ◌∙◌}
use Rattle.std.specs.Prelude.{slice_get}
use Rattle.nr_spec_typing.specs.declared.text.Promise.{Promise}
use Rattle.nr_spec_typing.specs.Declarations.{TypedText}
use Rattle.nr_spec_typing.specs.Meaning.{Scene, holds}
use Rattle.nr_spec_truth.specs.Truths.{holds_in, meant, promised}

pub is_meant : (texts : List TypedText) (file promise : ℕ) (text : TypedText) (p : Promise) (scene : Scene)
    → slice_get texts file ≡ Some text → slice_get text.promises promise ≡ Some p
    → meant texts file promise scene ≡ holds text.neighbours scene p.form
is_meant texts file promise text p scene is one =
    ap (λ o. holds_in o promise scene) is ∙ ap (λ o. promised text.neighbours o scene) one
