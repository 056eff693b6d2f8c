use Rattle.std.proofs.Common.{◌≡◌, ◌∙◌, Some, cond, ap, subst}
use Rattle.std.specs.Prelude.{is_some, OnOk}
use Rattle.std.specs.Ordering.{is_eq}
use Rattle.std.proofs.lemmas.Result.{IfOk-weaker}
use Rattle.nr_spec_routes.specs.Keys as keys
use Rattle.nr_spec_routes.specs.Keys.{key_cmp, route_in}
use Rattle.nr_tables.specs.Shared.{block_at, named_rows, Shared}
use Rattle.nr_tables.proofs.Named.{route_changed, row_there}
use Rattle.nr_tables.proofs.shared.SharedRows.put.Goals as goal

pub returns-clause-was : goal.returns-clause-was
returns-clause-was c =
    IfOk-weaker c.put_row.result _ _ (λ was h. h ∙ row_there c.self.inside.blocks.blocks c.self.inside.rows.entries c.args.key ∙ ap (λ (s : Shared). is_some (route_in s.rows c.args.key)) c.self.view_is) c.put_row.ensures.was

pub returns-clause-rows : goal.returns-clause-rows
returns-clause-rows c =
    subst (λ (s : Shared). OnOk c.put_row.result ((q : keys.Key) → route_in (named_rows c.put_row.new.blocks.blocks c.put_row.new.rows.entries) q ≡ cond (is_eq (key_cmp c.args.key q)) (Some (block_at s.blocks c.args.place)) (route_in s.rows q))) c.self.view_is
    (IfOk-weaker c.put_row.result _ _ (λ was h q. ap (λ blocks. route_in (named_rows blocks c.put_row.new.rows.entries) q) c.put_row.ensures.blocks
    ∙ route_changed c.self.inside.blocks.blocks c.self.inside.rows.entries c.put_row.new.rows.entries q (is_eq (key_cmp c.args.key q)) (Some c.args.place) (h q)) c.put_row.ensures.rows)
