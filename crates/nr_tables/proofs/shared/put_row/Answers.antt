use Rattle.std.proofs.Common.{◌≡◌, ◌+◌, ◌∙◌, Some, cond, length, sym, subst, arith}
use Rattle.std.specs.Prelude.{is_some}
use Rattle.std.specs.Map.{lookup}
use Rattle.std.specs.BTreeMap.{insert_entry, is_at}
use Rattle.nr_spec_routes.specs.Keys as keys
use Rattle.nr_spec_routes.specs.Keys.{key_cmp}
use Rattle.nr_tables.proofs.Named.{named_by, new_counted, swapped_counted}
use Rattle.nr_tables.proofs.Numbers.{times_most}
use Rattle.nr_tables.proofs.Order.{same_order}
use Rattle.nr_tables.proofs.shared.put_row.Goals as goal

pub leave-requires : goal.leave-requires
leave-requires c =
    named_by (is_at (key_cmp c.args.key)) c.args.blocks.now.numbers c.args.rows.now.entries c.in-Some.left c.requires.counted
    (sym (subst (λ R. Some c.in-Some.left ≡ lookup (is_at (R c.args.key)) c.args.rows.now.entries) same_order (sym c.in-Some.is ∙ c.in_ok-left.ensures.old)))

pub name-requires-clause-fits : goal.name-requires-clause-fits
name-requires-clause-fits c =
    let counted = c.requires.counted c.args.place in
    let most = times_most c.args.place c.args.rows.now.entries in
    let more = c.in_ok-left.ensures.len in
    let len = c.len.ensures.len in
    let small = c.len.ensures.small in
    let left = c.leave.ensures.numbers c.args.place in
    omega (arith, counted, most, more, len, small, left)

pub name-requires-in-None-clause-fits : goal.name-requires-in-None-clause-fits
name-requires-in-None-clause-fits c =
    let counted = c.requires.counted c.args.place in
    let most = times_most c.args.place c.args.rows.now.entries in
    let more = c.in_ok-left.ensures.len in
    let len = c.len-in-None.ensures.len in
    let small = c.len-in-None.ensures.small in
    omega (arith, counted, most, more, len, small)

pub returns-in-Some-clause-counted : goal.returns-in-Some-clause-counted
returns-in-Some-clause-counted c =
    swapped_counted key_cmp c.args.key c.args.place c.args.blocks.now.numbers c.leave.new.self.numbers c.name.new.self.numbers c.args.rows.now.entries c.insert.new.self.entries c.in-Some.left c.requires.counted
    (subst (λ R. c.insert.new.self.entries ≡ insert_entry R c.args.rows.now.entries c.args.key c.args.place) same_order c.in_ok-left.ensures.entries)
    (subst (λ o. length c.insert.new.self.entries ≡ length c.args.rows.now.entries + cond (is_some o) 0 1) c.in-Some.is c.in_ok-left.ensures.len)
    (sym (subst (λ R. Some c.in-Some.left ≡ lookup (is_at (R c.args.key)) c.args.rows.now.entries) same_order (sym c.in-Some.is ∙ c.in_ok-left.ensures.old)))
    c.leave.ensures.numbers c.name.ensures.numbers

pub returns-in-Some-clause-rows : goal.returns-in-Some-clause-rows
returns-in-Some-clause-rows c =
    subst (λ R. (q : keys.Key) → lookup (is_at (R q)) c.insert.new.self.entries ≡ cond (is_at (R c.args.key) q) (Some c.args.place) (lookup (is_at (R q)) c.args.rows.now.entries)) same_order c.in_ok-left.ensures.updates.0

pub returns-in-None-clause-counted : goal.returns-in-None-clause-counted
returns-in-None-clause-counted c =
    new_counted key_cmp c.args.key c.args.place c.args.blocks.now.numbers c.name-in-None.new.self.numbers c.args.rows.now.entries c.insert.new.self.entries c.requires.counted
    (subst (λ R. c.insert.new.self.entries ≡ insert_entry R c.args.rows.now.entries c.args.key c.args.place) same_order c.in_ok-left.ensures.entries)
    (subst (λ o. length c.insert.new.self.entries ≡ length c.args.rows.now.entries + cond (is_some o) 0 1) c.in-None.is c.in_ok-left.ensures.len)
    c.name-in-None.ensures.numbers

pub returns-in-None-clause-rows : goal.returns-in-None-clause-rows
returns-in-None-clause-rows c =
    subst (λ R. (q : keys.Key) → lookup (is_at (R q)) c.insert.new.self.entries ≡ cond (is_at (R c.args.key) q) (Some c.args.place) (lookup (is_at (R q)) c.args.rows.now.entries)) same_order c.in_ok-left.ensures.updates.0
