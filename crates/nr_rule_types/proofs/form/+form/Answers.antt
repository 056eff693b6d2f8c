use Rattle.std.proofs.Common.{◌≡◌, ◌≤◌, ◌+◌, ◌∙◌, ap, length, rules, arith}
use Rattle.std.proofs.lemmas.Result.{err_from_is_err_and}
use Rattle.nr_rule_syntax.specs.declared.tree.Form.{the_lemmas}
use Rattle.nr_rule_syntax.specs.declared.tree.Form.TheVariants.{And, Or}
use Rattle.nr_rule_syntax.specs.Nesting.{depth}
use Rattle.nr_spec_typing.specs.Scopes.{Scope}
use Rattle.nr_spec_typing.specs.Forms.{typed}
use Rattle.nr_rule_types.specs.Depths.{deepest}
use Rattle.nr_rule_types.proofs.Depths.{deepest_and, deepest_or, among}
use Rattle.nr_rule_types.proofs.Walks.{all_of_map, so_far_more, so_far_fails, so_far_done}
use Rattle.nr_rule_types.proofs.form.+form.Goals as goal

pub typed-each-requires : goal.typed-each-requires
typed-each-requires t c =
    let d : depth c.args.form.now ≡ depth (And c.in-And.members) = ap depth c.in-And.is in
    let l : deepest c.in-And.members ≤ depth (And c.in-And.members) = deepest_and c.in-And.members in
    let r : length c.args.scope.now.variables + depth c.args.form.now ≤ 64 = c.requires.levels in
    let n : length c.args.scope.now.variables + deepest c.in-And.members ≤ 64 = omega arith in
    (search (rules, the_lemmas), rw (c.as_slice.ensures) n)

pub typed-each-requires-in-Or : goal.typed-each-requires-in-Or
typed-each-requires-in-Or t c =
    let d : depth c.args.form.now ≡ depth (Or c.in-Or.members) = ap depth c.in-Or.is in
    let l : deepest c.in-Or.members ≤ depth (Or c.in-Or.members) = deepest_or c.in-Or.members in
    let r : length c.args.scope.now.variables + depth c.args.form.now ≤ 64 = c.requires.levels in
    let n : length c.args.scope.now.variables + deepest c.in-Or.members ≤ 64 = omega arith in
    (search (rules, the_lemmas), rw (c.as_slice-in-Or.ensures) n)

pub each-typed-requires : goal.each-typed-requires
each-typed-requires t c =
    let m : depth c.member-item.result ≤ deepest c.args.members.now = among c.args.members.now c.loop-member.member-index c.member-item.result c.loop-member-test.true c.member-item.is in
    let k : length c.loop-member.scope.variables ≡ length c.args.scope.now.variables = ap (λ (s : Scope). length s.variables) c.loop-member.invariant.kept in
    let r : length c.args.scope.now.variables + deepest c.args.members.now ≤ 64 = c.requires.levels in
    (search (rules, the_lemmas), omega arith)

pub each-returns-in_err-typed-clause-value : goal.each-returns-in_err-typed-clause-value
each-returns-in_err-typed-clause-value t c =
    let p = err_from_is_err_and c.from_residual.result c.from_residual.ensures.1 in
    let v = rw c.loop-member.invariant.kept at c.in_err-typed.ensures.value in
    rw (p.1, p.2, all_of_map (λ member. member c.args.scope.now) typed c.args.members.now)
    (so_far_fails c.loop-member.invariant.so_far c.member-item.result c.in_err-typed.field-0.0 c.loop-member-test.true c.member-item.is v)

pub each-loop-member-preserved : goal.each-loop-member-preserved
each-loop-member-preserved t c = record {
  kept = c.in_ok-typed.ensures.kept ∙ c.loop-member.invariant.kept;
  so_far = rw c.in_ok-push.ensures.ok (so_far_more c.loop-member.invariant.so_far c.member-item.result _ c.loop-member-test.true c.member-item.is (rw c.loop-member.invariant.kept at c.in_ok-typed.ensures.value));
}

pub each-returns-clause-value : goal.each-returns-clause-value
each-returns-clause-value t c = all_of_map _ typed c.args.members.now ∙ so_far_done c.loop-member.invariant.so_far (omega arith)
