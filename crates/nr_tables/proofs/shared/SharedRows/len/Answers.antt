use Rattle.std.proofs.Common.{subst}
use Rattle.std.specs.List.Sorted.{IsStrictlySortedBy}
use Rattle.std.specs.Map.{keys_of}
use Rattle.nr_spec_routes.specs.Keys.{AreAscending}
use Rattle.nr_tables.specs.Shared.{Shared}
use Rattle.nr_tables.proofs.Named.{named_ascend}
use Rattle.nr_tables.proofs.Order.{same_order}
use Rattle.nr_tables.proofs.shared.SharedRows.len.Goals as goal

pub returns-clause-order : goal.returns-clause-order
returns-clause-order c =
    subst (λ (s : Shared). AreAscending s.rows) c.self.view_is
    (named_ascend c.self.inside.blocks.blocks c.self.inside.rows.entries (subst (λ R. IsStrictlySortedBy R (keys_of c.self.inside.rows.entries)) same_order c.len.ensures.ordered))
