use Rattle.std.proofs.Common.{◌≡◌, ◌∙◌, None, cond, ap, subst}
use Rattle.std.specs.Prelude.{is_some}
use Rattle.std.specs.Map.{remove_entry}
use Rattle.std.specs.BTreeMap.{is_at}
use Rattle.std.specs.Ordering.{is_eq}
use Rattle.nr_spec_routes.specs.Keys as keys
use Rattle.nr_spec_routes.specs.Keys.{key_cmp, route_in}
use Rattle.nr_tables.specs.Shared.{named_rows, Shared}
use Rattle.nr_tables.proofs.Named.{named_removed, route_changed, row_there}
use Rattle.nr_tables.proofs.shared.SharedRows.remove.Goals as goal

pub returns-clause-was : goal.returns-clause-was
returns-clause-was c =
    c.remove_row.ensures.was ∙ row_there c.self.inside.blocks.blocks c.self.inside.rows.entries c.args.key ∙ ap (λ (s : Shared). is_some (route_in s.rows c.args.key)) c.self.view_is

pub returns-clause-left : goal.returns-clause-left
returns-clause-left c =
    (λ i. named_rows (c.remove_row.ensures.blocks i) (c.remove_row.ensures.left i)) ∙ named_removed c.self.inside.blocks.blocks (is_at (key_cmp c.args.key)) c.self.inside.rows.entries
    ∙ ap (λ (s : Shared). remove_entry (is_at (key_cmp c.args.key)) s.rows) c.self.view_is

pub returns-clause-rows : goal.returns-clause-rows
returns-clause-rows c =
    subst (λ (s : Shared). (q : keys.Key) → route_in (named_rows c.remove_row.new.blocks.blocks c.remove_row.new.rows.entries) q ≡ cond (is_eq (key_cmp c.args.key q)) None (route_in s.rows q)) c.self.view_is
    (λ q. ap (λ blocks. route_in (named_rows blocks c.remove_row.new.rows.entries) q) c.remove_row.ensures.blocks
    ∙ route_changed c.self.inside.blocks.blocks c.self.inside.rows.entries c.remove_row.new.rows.entries q (is_eq (key_cmp c.args.key q)) None (c.remove_row.ensures.rows q))
