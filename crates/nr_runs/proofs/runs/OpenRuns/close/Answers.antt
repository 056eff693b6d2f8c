use Rattle.std.proofs.Common.{List, ap, sym, ◌∙◌}
use Rattle.nr_spec_runs.specs.Runs as spec
use Rattle.nr_runs.specs.Views.{Kept}
use Rattle.nr_runs.proofs.Seen.{saw_all}
use Rattle.nr_runs.proofs.Sorted.{same_spans, sorted_in}
use Rattle.nr_runs.proofs.runs.OpenRuns.close.Goals as goal

pub returns : goal.returns
returns c = λ (seen : List spec.Observation) h. record {
  ordered = sorted_in c.sort.new.runs.items c.in_ok-sort.ensures.sorted;
  each = λ (q : spec.Key). same_spans c.self.inside.ended.items c.sort.new.runs.items c.in_ok-sort.ensures.stable q
      ∙ ap (λ (k : Kept). spec.spans_of q k.ended) c.self.view_is ∙ c.in_ok-end_all.ensures q ∙ sym (saw_all c.args.self seen h q c.args.time);
}
