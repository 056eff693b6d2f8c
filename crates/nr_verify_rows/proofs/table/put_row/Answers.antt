use Rattle.std.proofs.Common.{◌≡◌, Some, cond, subst}
use Rattle.std.specs.Map.{lookup}
use Rattle.std.specs.BTreeMap.{is_at}
use Rattle.nr_spec_routes.specs.Keys as keys
use Rattle.nr_verify_rows.proofs.Order.{same_order}
use Rattle.nr_verify_rows.proofs.table.put_row.Goals as goal

pub returns : goal.returns
returns c = subst (λ R. (q : keys.Key) → lookup (is_at (R q)) c.insert.new.self.entries ≡ cond (is_at (R c.args.key) q) (Some c.args.attrs) (lookup (is_at (R q)) c.args.rows.now.entries)) same_order c.in_ok-insert.ensures.updates.0
