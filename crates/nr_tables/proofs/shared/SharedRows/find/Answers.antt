use Rattle.std.proofs.Common.{◌≡◌, Some, None, ap, subst, sym, ◌∙◌}
use Rattle.std.specs.Prelude.{option_map}
use Rattle.std.specs.Map.{lookup}
use Rattle.std.specs.BTreeMap.{is_at}
use Rattle.nr_spec_routes.specs.Keys.{key_cmp, route_in}
use Rattle.nr_tables.specs.Shared.{block_at, Shared}
use Rattle.nr_tables.proofs.shared.SharedRows.find.Goals as goal
use Rattle.nr_tables.proofs.Named.{named_by, route_named}
use Rattle.nr_tables.proofs.Order.{same_order}

pub attrs-requires : goal.attrs-requires
attrs-requires c =
    named_by (is_at (key_cmp c.args.key)) c.self.inside.blocks.numbers c.self.inside.rows.entries c.in-Some.place.now c.self.invariant
    (sym (subst (λ R. Some c.in-Some.place.now ≡ lookup (is_at (R c.args.key)) c.self.inside.rows.entries) same_order c.in-Some.ensures.value))

pub returns-in-Some : goal.returns-in-Some
returns-in-Some c =
    ap Some c.attrs.ensures.same
    ∙ ap (option_map (block_at c.self.inside.blocks.blocks)) (subst (λ R. Some c.in-Some.place.now ≡ lookup (is_at (R c.args.key)) c.self.inside.rows.entries) same_order c.in-Some.ensures.value)
    ∙ sym (route_named c.self.inside.blocks.blocks c.self.inside.rows.entries c.args.key) ∙ ap (λ (s : Shared). route_in s.rows c.args.key) c.self.view_is

pub returns-in-None : goal.returns-in-None
returns-in-None c =
    ap (option_map (block_at c.self.inside.blocks.blocks)) (subst (λ R. None ≡ lookup (is_at (R c.args.key)) c.self.inside.rows.entries) same_order c.in-None.ensures.value)
    ∙ sym (route_named c.self.inside.blocks.blocks c.self.inside.rows.entries c.args.key) ∙ ap (λ (s : Shared). route_in s.rows c.args.key) c.self.view_is
