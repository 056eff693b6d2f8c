use Rattle.std.proofs.Common.{◌∙◌, ap}
use Rattle.nr_tables.specs.Shared.{blocks_in, Shared}
use Rattle.nr_tables.proofs.Named.{blocks_counted}
use Rattle.nr_tables.proofs.shared.SharedRows.blocks.Goals as goal

pub returns : goal.returns
returns c =
    blocks_counted c.self.inside.blocks.blocks c.self.inside.blocks.numbers c.self.inside.rows.entries c.in_use.result c.in_use.ensures.lengths c.in_use.ensures.distinct c.self.invariant c.in_use.ensures.value
    ∙ ap (λ (s : Shared). blocks_in s.rows) c.self.view_is
