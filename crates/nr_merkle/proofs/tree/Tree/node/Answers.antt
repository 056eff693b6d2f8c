use Rattle.std.proofs.Common.{◌≡◌, ◌+◌, ◌^◌, drop, ap, arith, ◌∙◌}
use Rattle.std.proofs.lemmas.List.{get_or_read}
use Rattle.nr_spec_keys.specs.Trees.{KeyTree}
use Rattle.nr_merkle.proofs.HeapSteps.{is_read}
use Rattle.nr_merkle.proofs.tree.Tree.node.Goals as goal

pub index-requires : goal.index-requires
index-requires c =
    let height_is : c.self.inside.height ≡ c.args.self.now.height = ap (λ (t : KeyTree). t.height) c.self.view_is in
    let leaves_are : drop (2 ^ c.self.inside.height) c.self.inside.nodes.items ≡ c.args.self.now.leaves = ap (λ (t : KeyTree). t.leaves) c.self.view_is in
    let read = is_read c.args.self.now c.self.inside.height c.args.level c.args.n c.row_start.result c.self.inside.nodes.items c.self.invariant height_is leaves_are c.requires.in_tree c.requires.in_row c.row_start.ensures in
    omega (arith, read.within, c.self.inside.nodes.ok)

pub returns : goal.returns
returns c =
    let height_is : c.self.inside.height ≡ c.args.self.now.height = ap (λ (t : KeyTree). t.height) c.self.view_is in
    let leaves_are : drop (2 ^ c.self.inside.height) c.self.inside.nodes.items ≡ c.args.self.now.leaves = ap (λ (t : KeyTree). t.leaves) c.self.view_is in
    let read = is_read c.args.self.now c.self.inside.height c.args.level c.args.n c.row_start.result c.self.inside.nodes.items c.self.invariant height_is leaves_are c.requires.in_tree c.requires.in_row c.row_start.ensures in
    get_or_read c.self.inside.nodes.items (c.row_start.result + c.args.n) c.index.result.now read.within c.index.ensures _ ∙ read.value
