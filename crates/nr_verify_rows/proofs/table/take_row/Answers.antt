use Rattle.std.proofs.Common.{◌≡◌, None, cond, subst}
use Rattle.std.specs.Map.{lookup}
use Rattle.std.specs.BTreeMap.{is_at}
use Rattle.nr_spec_routes.specs.Keys as keys
use Rattle.nr_verify_rows.proofs.Order.{same_order}
use Rattle.nr_verify_rows.proofs.table.take_row.Goals as goal

pub returns : goal.returns
returns c = subst (λ R. (q : keys.Key) → lookup (is_at (R q)) c.remove.new.self.entries ≡ cond (is_at (R c.args.key) q) None (lookup (is_at (R q)) c.args.rows.now.entries)) same_order c.remove.ensures.updates.0
