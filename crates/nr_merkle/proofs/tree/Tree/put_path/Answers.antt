use Rattle.std.proofs.Common.{◌≡◌, ℕ, ◌/◌, ◌^◌, ◌<◌, ◌++◌, ap, ◌∙◌, arith}
use Rattle.nr_spec_keys.specs.Pieces.{joined}
use Rattle.nr_spec_keys.specs.Trees.{node_at, sibling, path_of}
use Rattle.nr_spec_keys.proofs.PieceLemmas.{appends-none, appends-more}
use Rattle.nr_spec_keys.proofs.TreeLemmas.{sibling_in_row}
use Rattle.nr_merkle.proofs.tree.Tree.put_path.Goals as goal

pub loop-level-init : goal.loop-level-init
loop-level-init c = appends-none _ _

pub node-requires-clause-in_row : goal.node-requires-clause-in_row
node-requires-clause-in_row c =
    let lt : c.loop-level.level < c.args.self.now.height = omega (arith, c.height-level-end.ensures.value) in
    rw c.sibling-n.ensures (sibling_in_row c.args.self.now.height c.args.leaf c.loop-level.level lt c.requires)

pub loop-level-preserved : goal.loop-level-preserved
loop-level-preserved c =
    appends-more _ c.args.out.now.items c.loop-level.out.items _ _ c.loop-level.level c.loop-level.invariant c.in_ok-put_bytes.ensures.ok
    (c.node.ensures ∙ ap (node_at c.args.self.now.leaves c.loop-level.level) c.sibling-n.ensures)

pub returns-clause-ok : goal.returns-clause-ok
unfolding path_of
returns-clause-ok c =
    let all : c.loop-level.level ≡ c.args.self.now.height = omega (arith, c.height-level-end.ensures.value) in
    c.loop-level.invariant ∙ ap (λ (n : ℕ). c.args.out.now.items ++ joined (λ level. node_at c.args.self.now.leaves level (sibling (c.args.leaf / 2 ^ level))) n) all
