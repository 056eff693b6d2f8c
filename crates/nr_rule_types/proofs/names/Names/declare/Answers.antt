use Rattle.std.proofs.Common.{◌≡◌, Some, None, sym, ◌∙◌}
use Rattle.std.proofs.lemmas.Map.Text.{btree_map_updates_str}
use Rattle.nr_spec_typing.specs.Scopes.{meaning}
use Rattle.nr_rule_types.proofs.Placed.{indexed_more}
use Rattle.nr_rule_types.proofs.names.Names.declare.Goals as goal

pub invariant_of-self-in_default : goal.invariant_of-self-in_default
invariant_of-self-in_default c = λ q.
    let e : c.in_ok-word.word ≡ c.args.name.now.word = c.in_ok-word.ensures ∙ c.bytes.ensures in
    let none : meaning c.self.inside.list c.in_ok-word.word ≡ None = rw (e, c.self.view_is) c.requires in
    indexed_more c.self.inside.list c.push.new.self (record { word = c.in_ok-word.word; means = c.args.means }) q c.bytes-2.result.now c.len-place.result _ _
    none
    (c.bytes-2.ensures ∙ sym e)
    c.len-place.ensures
    (c.self.invariant q)
    (btree_map_updates_str c.bytes-2.result.now c.self.inside.places c.insert.new.self (Some c.len-place.result) c.in_default.ensures.updates q)
    c.in_ok-push.ensures.ok
