use Rattle.std.proofs.Common.{◌≡◌, true, length, ap, sym, ◌∙◌, rules}
use Rattle.std.specs.Prelude.{is_some}
use Rattle.std.specs.List.{list_all}
use Rattle.nr_spec_typing.specs.Guarantees.{fits}
use Rattle.nr_spec_typing.specs.Meaning.{holds_where, route_in}
use Rattle.nr_spec_typing.specs.declared.tree.Typing.{the_lemmas}
use Rattle.nr_rule_eval.specs.Views.{seen_route}
use Rattle.nr_rule_eval.specs.Variables.{bounds_of, things_of}
use Rattle.nr_rule_eval.proofs.Forms.{fits_and, fits_or, holds_and, holds_or, holds_if, is_some_map, with_found}
use Rattle.nr_rule_eval.proofs.form.+form.Goals as goal

pub holds_at-all_hold-requires : goal.holds_at-all_hold-requires
holds_at-all_hold-requires g t c =
    let n = length c.args.neighbours.now in
    let around = bounds_of c.args.variables.now in
    let f : list_all (λ member. fits n member around) c.as_slice.result.now ≡ true = rw (c.as_slice.ensures) (sym (fits_and n c.in-And.members around) ∙ (rw c.in-And.is at c.requires)) in
    search (rules, the_lemmas)

pub holds_at-one_holds-requires : goal.holds_at-one_holds-requires
holds_at-one_holds-requires g t c =
    let n = length c.args.neighbours.now in
    let around = bounds_of c.args.variables.now in
    let f : list_all (λ member. fits n member around) c.as_slice-in-Or.result.now ≡ true = rw (c.as_slice-in-Or.ensures) (sym (fits_or n c.in-Or.members around) ∙ (rw c.in-Or.is at c.requires)) in
    search (rules, the_lemmas)

pub holds_at-returns-in-And-clause-value : goal.holds_at-returns-in-And-clause-value
holds_at-returns-in-And-clause-value g t c = rw (c.in-And.is, holds_and c.args.neighbours.now (g.S.Scene.seen c.args.scene.now) c.in-And.members _) (rw (c.as_slice.ensures) at c.all_hold.ensures.value)

pub holds_at-returns-in-Or-clause-value : goal.holds_at-returns-in-Or-clause-value
holds_at-returns-in-Or-clause-value g t c = rw (c.in-Or.is, holds_or c.args.neighbours.now (g.S.Scene.seen c.args.scene.now) c.in-Or.members _) (rw (c.as_slice-in-Or.ensures) at c.one_holds.ensures.value)

pub holds_at-returns-then-is_some-clause-value : goal.holds_at-returns-then-is_some-clause-value
holds_at-returns-then-is_some-clause-value g t c =
    let ns = c.args.neighbours.now in
    let scene = g.S.Scene.seen c.args.scene.now in
    let slots = c.args.variables.now in
    let is : is_some (route_in scene c.in-If.side c.who-n.result) ≡ true = sym (ap (λ o. is_some o) c.route_of.ensures) ∙ is_some_map seen_route c.route_of.result ∙ sym c.is_some.ensures ∙ c.if-is_some.true in
    let v = rw c.get-then-is_some.ensures at c.holds_with.ensures.value in
    rw (c.in-If.is, holds_if ns scene c.in-If.var c.in-If.side c.in-If.of c.in-If.yes c.in-If.no (things_of scene slots), sym c.who-n.ensures)
    (v ∙ sym (with_found scene c.in-If.side c.who-n.result slots (holds_where ns scene c.in-If.yes) (holds_where ns scene c.in-If.no) is))
