use Rattle.nr_verify_counts.proofs.counts.Counts.step.Goals as goal
use Rattle.std.proofs.Common.{sym, subst}
use Rattle.nr_spec_counts.specs.Steps.{counted}
use Rattle.nr_spec_counts.proofs.OneMore.{one_counted}
use Rattle.nr_spec_counts.specs.Tallies.{tally_after}
use Rattle.nr_chain.specs.Views.{entry_of}
use Rattle.nr_verify_counts.specs.Kept.{IsKeptOf}

pub returns : goal.returns
returns c = λ base past before.
    let e = entry_of c.args.entry.now in
    let t = tally_after base past in
    subst (λ t. IsKeptOf t c.count.new.self) (sym (one_counted base past e)) (subst (λ x. IsKeptOf (counted t x e.time) c.count.new.self) c.read-read.ensures.value (c.count.ensures t before))
