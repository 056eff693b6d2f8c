use Rattle.std.proofs.Common.{◌≡◌, Ok, rules}
use Rattle.nr_spec_typing.specs.Declarations.{TypedText, typed_text}
use Rattle.nr_rule_types.proofs.text.check.Goals as goal

pub invariant_of-result : goal.invariant_of-result
unfolding typed_text
invariant_of-result c =
    let t : TypedText = record { network = c.in-Some-Some.network; commit = c.in-Some-Some.commit; neighbours = c.network.inside.neighbours; promises = c.network.inside.promises } in
    let e : typed_text c.args.file.now ≡ Ok t = search rules in
    let r = rw c.as_slice.ensures at c.in_ok-network.ensures.range in
    c.typed_texts_fit.ensures c.args.file.now t c.requires r e

pub returns-in-Some-Some-clause-typed : goal.returns-in-Some-Some-clause-typed
unfolding typed_text
returns-in-Some-Some-clause-typed c =
    let t : TypedText = record { network = c.in-Some-Some.network; commit = c.in-Some-Some.commit; neighbours = c.network.inside.neighbours; promises = c.network.inside.promises } in
    let e : typed_text c.args.file.now ≡ Ok t = search rules in
    let r = rw c.as_slice.ensures at c.in_ok-network.ensures.range in
    c.typed_texts_fit.ensures c.args.file.now t c.requires r e
