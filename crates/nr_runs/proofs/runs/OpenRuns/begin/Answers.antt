use Rattle.std.proofs.Common.{Some, ap, ◌∙◌}
use Rattle.std.specs.Prelude.{if◌then◌else◌}
use Rattle.nr_spec_runs.specs.Runs as spec
use Rattle.nr_runs.specs.Views.{Kept, begun, key_view}
use Rattle.nr_runs.proofs.Keys.{changed}
use Rattle.nr_runs.proofs.runs.OpenRuns.begin.Goals as goal

pub returns-clause-begun : goal.returns-clause-begun
returns-clause-begun c = λ (q : spec.Key).
    changed c.self.inside.open c.insert.new.self c.args.key (Some c.args.time) c.in_ok-insert.ensures.updates.0 q
    ∙ ap (λ (k : Kept). if spec.same_key q (key_view c.args.key) then Some c.args.time else begun k.open_at q) c.self.view_is
