use Rattle.std.proofs.Common.{◌≡◌}
use Rattle.nr_verify_eval.specs.Views.{scene_of}
use Rattle.nr_verify_eval.proofs.Forms.{holds_and, holds_or}
use Rattle.nr_verify_eval.proofs.form.+form.Goals as goal

pub holds_at-returns-in-And-clause-value : goal.holds_at-returns-in-And-clause-value
holds_at-returns-in-And-clause-value t c = rw (c.in-And.is, holds_and c.args.neighbours.now (scene_of c.args.prefix.now c.args.routes.now) c.in-And.members _) (rw (c.as_slice.ensures) at c.all_hold.ensures.value)

pub holds_at-returns-in-Or-clause-value : goal.holds_at-returns-in-Or-clause-value
holds_at-returns-in-Or-clause-value t c = rw (c.in-Or.is, holds_or c.args.neighbours.now (scene_of c.args.prefix.now c.args.routes.now) c.in-Or.members _) (rw (c.as_slice-in-Or.ensures) at c.one_holds.ensures.value)
