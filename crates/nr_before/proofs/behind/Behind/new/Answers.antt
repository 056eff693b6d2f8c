use Rattle.std.proofs.Common.{◌∙◌, ap}
use Rattle.nr_spec_log.specs.Chain.{Chain}
use Rattle.nr_spec_counts.specs.Tallies.{nothing_yet}
use Rattle.nr_discipline.specs.Kept.{IsKeptOf}
use Rattle.nr_before.proofs.Leaving.{counts_none, rows_none}
use Rattle.nr_before.proofs.behind.Behind.new.Goals as goal

pub returns : goal.returns
returns c =
    let kept : IsKeptOf nothing_yet c.new-3.result = search in
    record {
      rows = rows_none c.new.result c.new.ensures;
      counts = counts_none c.new-3.result kept;
      value = ap (λ (w : Chain). w.value) c.new-4.ensures ∙ c.genesis.ensures;
      seq = ap (λ (w : Chain). w.seq) c.new-4.ensures;
    }
