use Rattle.std.proofs.Common.{◌∙◌, ap, sym}
use Rattle.nr_tables.specs.Shared.{block_at, Pool}
use Rattle.nr_tables.proofs.Stock.{block_there, stored_there}
use Rattle.nr_tables.proofs.blocks.Blocks.attrs.Goals as goal

pub attrs-requires : goal.attrs-requires
attrs-requires c = stored_there c.self.inside.places.entries c.args.place c.in-Some.block.now c.in-Some.field-0-1.now c.self.invariant.stored (sym c.in-Some.ensures.entry)

pub returns-clause-same : goal.returns-clause-same
returns-clause-same c =
    c.attrs.ensures.same ∙ sym (block_there c.self.inside.places.entries c.args.place c.in-Some.block.now c.in-Some.field-0-1.now (sym c.in-Some.ensures.entry)) ∙ ap (λ (p : Pool). block_at p.blocks c.args.place) c.self.view_is
