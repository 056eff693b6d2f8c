use Rattle.std.proofs.Common.{◌++◌, ◌∙◌, None, ap}
use Rattle.nr_spec_runs.specs.Runs as spec
use Rattle.nr_runs.specs.Views.{begun, runs_in, still}
use Rattle.nr_runs.proofs.Keys.{changed}
use Rattle.nr_runs.proofs.Sorted.{one_ended}
use Rattle.nr_runs.proofs.runs.OpenRuns.end_all.Goals as goal

pub loop-key-preserved : goal.loop-key-preserved
loop-key-preserved c = λ (q : spec.Key).
    ap (λ l. spec.spans_of q (runs_in l) ++ still c.args.time (begun c.pop_first.new.self.entries q)) c.in_ok-push.ensures.items
    ∙ one_ended q c.args.time c.in-Some.begin c.in-Some.key c.loop-key.self-inside.ended.items c.loop-key.self-inside.open.entries c.pop_first.new.self.entries
    c.in-Some.ensures.removal
    (changed c.loop-key.self-inside.open c.pop_first.new.self c.in-Some.key None c.in-Some.ensures.updates.0 q)
    ∙ c.loop-key.invariant q
