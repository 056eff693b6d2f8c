use Rattle.std.proofs.Common.{◌≡◌, Some, None, cond, sym, subst}
use Rattle.std.specs.Map.{lookup, remove_entry}
use Rattle.std.specs.BTreeMap.{is_at}
use Rattle.nr_spec_routes.specs.Keys as keys
use Rattle.nr_spec_routes.specs.Keys.{key_cmp}
use Rattle.nr_tables.proofs.Named.{left_counted, named_by}
use Rattle.nr_tables.proofs.Order.{same_order}
use Rattle.nr_tables.proofs.shared.remove_row.Goals as goal

pub leave-requires : goal.leave-requires
leave-requires c =
    named_by (is_at (key_cmp c.args.key)) c.args.blocks.now.numbers c.args.rows.now.entries c.in-Some.left c.requires
    (sym (subst (λ R. Some c.in-Some.left ≡ lookup (is_at (R c.args.key)) c.args.rows.now.entries) same_order c.in-Some.ensures.value))

pub returns-in-Some-clause-counted : goal.returns-in-Some-clause-counted
returns-in-Some-clause-counted c =
    left_counted (is_at (key_cmp c.args.key)) c.args.blocks.now.numbers c.leave.new.self.numbers c.args.rows.now.entries c.remove.new.self.entries c.in-Some.left c.requires
    (sym (subst (λ R. Some c.in-Some.left ≡ lookup (is_at (R c.args.key)) c.args.rows.now.entries) same_order c.in-Some.ensures.value))
    (subst (λ R. c.remove.new.self.entries ≡ remove_entry (is_at (R c.args.key)) c.args.rows.now.entries) same_order c.remove.ensures.entries)
    c.leave.ensures.numbers

pub returns-in-Some-clause-rows : goal.returns-in-Some-clause-rows
returns-in-Some-clause-rows c =
    subst (λ R. (q : keys.Key) → lookup (is_at (R q)) c.remove.new.self.entries ≡ cond (is_at (R c.args.key) q) None (lookup (is_at (R q)) c.args.rows.now.entries)) same_order c.remove.ensures.updates.0
