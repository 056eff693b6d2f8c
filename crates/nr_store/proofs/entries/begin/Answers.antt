use Rattle.std.proofs.Common.{ℕ, ap, ◌∙◌}
use Rattle.nr_spec_wire.specs.Reading.{rows, fault}
use Rattle.nr_spec_store.specs.LogFile.{batches_at, entries_of}
use Rattle.nr_store.proofs.Left.{begun}
use Rattle.nr_store.proofs.entries.begin.Goals as goal

pub invariant_of-result : goal.invariant_of-result
invariant_of-result c = (begun c.fork.result c.left-fuel.result c.args.beyond (ap (λ (n : ℕ). fault (batches_at 0 n c.args.beyond)) c.left-fuel.ensures ∙ c.requires)).1

pub returns : goal.returns
returns c =
    (begun c.fork.result c.left-fuel.result c.args.beyond (ap (λ (n : ℕ). fault (batches_at 0 n c.args.beyond)) c.left-fuel.ensures ∙ c.requires)).0
    ∙ ap (λ (n : ℕ). entries_of (rows (batches_at 0 n c.args.beyond))) c.left-fuel.ensures
