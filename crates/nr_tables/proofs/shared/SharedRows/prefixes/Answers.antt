use Rattle.std.proofs.Common.{◌∙◌, ap, None, subst}
use Rattle.std.specs.List.Sorted.{IsStrictlySortedBy}
use Rattle.std.specs.Map.{keys_of}
use Rattle.nr_spec_routes.specs.Keys.{standing}
use Rattle.nr_tables.specs.Others.{others, prefixes_of}
use Rattle.nr_tables.specs.Shared.{Shared}
use Rattle.nr_tables.proofs.Named.{prefixes_named}
use Rattle.nr_tables.proofs.Order.{same_order}
use Rattle.nr_tables.proofs.shared.SharedRows.prefixes.Goals as goal

pub returns : goal.returns
returns c =
    ap (λ l. others None (prefixes_of l)) c.iter.ensures.rest
    ∙ prefixes_named c.self.inside.blocks.blocks c.self.inside.rows.entries (subst (λ R. IsStrictlySortedBy R (keys_of c.self.inside.rows.entries)) same_order c.iter.ensures.ordered)
    ∙ ap (λ (s : Shared). standing s.rows) c.self.view_is
