use Rattle.std.proofs.Common.{subst, sym}
use Rattle.std.specs.List.Sorted.{IsStrictlySortedBy}
use Rattle.std.specs.Map.{keys_of}
use Rattle.nr_spec_routes.specs.Keys.{AreAscending}
use Rattle.nr_tables.specs.Shared.{AreNamed, Shared}
use Rattle.nr_tables.proofs.Named.{all_named, named_ascend}
use Rattle.nr_tables.proofs.Order.{same_order}
use Rattle.nr_tables.proofs.shared.SharedRows.rows.Goals as goal

pub new-requires : goal.new-requires
new-requires c =
    subst (AreNamed c.self.inside.blocks.numbers) (sym c.iter.ensures.rest) (all_named c.self.inside.blocks.numbers c.self.inside.rows.entries c.self.invariant)

pub returns-clause-order : goal.returns-clause-order
returns-clause-order c =
    subst (λ (s : Shared). AreAscending s.rows) c.self.view_is
    (named_ascend c.self.inside.blocks.blocks c.self.inside.rows.entries (subst (λ R. IsStrictlySortedBy R (keys_of c.self.inside.rows.entries)) same_order c.iter.ensures.ordered))
