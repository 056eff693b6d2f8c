use Rattle.std.proofs.Common.{None, ap, ◌∙◌}
use Rattle.std.specs.Prelude.{if◌then◌else◌}
use Rattle.nr_spec_runs.specs.Runs as spec
use Rattle.nr_runs.specs.Views.{Kept, begun, key_view}
use Rattle.nr_runs.proofs.Keys.{changed}
use Rattle.nr_runs.proofs.runs.OpenRuns.end.Goals as goal

pub returns-clause-begun : goal.returns-clause-begun
returns-clause-begun c = λ (q : spec.Key).
    changed c.self.inside.open c.remove.new.self c.args.key.now None c.remove.ensures.updates.0 q
    ∙ ap (λ (k : Kept). if spec.same_key q (key_view c.args.key.now) then None else begun k.open_at q) c.self.view_is
