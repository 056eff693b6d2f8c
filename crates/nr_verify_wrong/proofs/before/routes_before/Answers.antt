use Rattle.std.proofs.Common.{◌≡◌, ◌∷◌, ◌-◌, arith, subst, rules}
use Rattle.nr_chain.specs.Views.{entry_of}
use Rattle.nr_verify_wrong.specs.Passed.{Routed}
use Rattle.nr_verify_wrong.proofs.Passing.{routed_all, routed_more, routed_none, routed_there}
use Rattle.nr_verify_wrong.proofs.before.routes_before.Goals as goal

pub loop-entry-init : goal.loop-entry-init
loop-entry-init c = routed_none c.args.entries c.into_iter-entry-iterator.result c.args.before c.new-table.result (search rules) c.new-table.ensures

pub returns-then-left-eq0 : goal.returns-then-left-eq0
returns-then-left-eq0 c =
    let done : c.loop-entry.left ≡ 0 = omega arith in
    routed_there c.args.entries c.loop-entry.entry-iterator c.args.before c.loop-entry.table (subst (λ n. Routed c.args.entries c.loop-entry.entry-iterator c.args.before n c.loop-entry.table) done c.loop-entry.invariant)

pub loop-entry-preserved : goal.loop-entry-preserved
loop-entry-preserved c =
    let e = entry_of c.in-Some.entry in
    let r : Routed c.args.entries (e ∷ c.next.new.self) c.args.before c.loop-entry.left c.loop-entry.table = rw c.in-Some.ensures.steps at c.loop-entry.invariant in
    routed_more c.args.entries c.next.new.self e c.args.before c.loop-entry.left (c.loop-entry.left - 1) c.loop-entry.table c.step.new.table (omega arith) r c.in_ok-step.ensures

pub returns : goal.returns
returns c = routed_all c.args.entries c.loop-entry.entry-iterator c.args.before c.loop-entry.left c.loop-entry.table (search rules) c.loop-entry.invariant
