use Rattle.std.proofs.Common.{◌∙◌, ap}
use Rattle.nr_tables.specs.Shared.{Shared}
use Rattle.nr_tables.proofs.Named.{all_named, rows_stay}
use Rattle.nr_tables.proofs.shared.SharedRows.place_of.Goals as goal

pub returns-clause-rows : goal.returns-clause-rows
returns-clause-rows c =
    rows_stay c.self.inside.blocks.blocks c.place_of.new.self.blocks c.self.inside.blocks.numbers c.self.inside.rows.entries
    (all_named c.self.inside.blocks.numbers c.self.inside.rows.entries c.self.invariant) c.place_of.ensures.blocks ∙ ap (λ (s : Shared). s.rows) c.self.view_is
