use Rattle.std.proofs.Common.{◌≡◌, ℕ, List, ◌++◌, ap, ◌∙◌}
use Rattle.std.proofs.lemmas.Result.{on_ok_weaker, on_err_weaker}
use Rattle.byteorder.specs.Endian.{big_bytes}
use Rattle.nr_spec_keys.specs.OneTime.{pairs_of}
use Rattle.nr_spec_keys.specs.Trees.{KeyTree, tree_of, path_of, signed_digest_of, signature_by}
use Rattle.nr_spec_keys.proofs.PieceLemmas.{appended, appended_three, front-stays}
use Rattle.nr_merkle.proofs.tree.Tree.put_signature.Goals as goal

pub returns-clause-ok : goal.returns-clause-ok
unfolding signature_by
returns-clause-ok c =
    let seed = c.args.seed.now.0 in
    let tree = c.args.self.now in
    let height_field : big_bytes 1 c.height-height.result ≡ big_bytes 1 tree.height = ap (big_bytes 1) c.height-height.ensures.value in
    let pairs_field : pairs_of seed c.args.leaf c.signed_digest.result.0 ≡ pairs_of seed c.args.leaf (signed_digest_of c.args.body.now) = ap (pairs_of seed c.args.leaf) c.signed_digest.ensures in
    let path_field : path_of tree c.args.leaf ≡ path_of (tree_of seed tree.height) c.args.leaf = ap (λ (t : KeyTree). path_of t c.args.leaf) c.requires.of_seed in
    on_ok_weaker c.put_path.result
    (λ path_is. appended c.args.out.now.items _ _ _ _ (big_bytes 4 c.args.leaf) (big_bytes 1 tree.height) (pairs_of seed c.args.leaf (signed_digest_of c.args.body.now)) (path_of (tree_of seed tree.height) c.args.leaf)
    c.in_ok-put_u32.ensures.ok
    (c.in_ok-put_u8.ensures.ok ∙ ap (λ (xs : List ℕ). c.put_u32.new.out.items ++ xs) height_field)
    (c.in_ok-sign.ensures.ok ∙ ap (λ (xs : List ℕ). c.put_u8.new.out.items ++ xs) pairs_field)
    (path_is ∙ ap (λ (xs : List ℕ). c.sign.new.out.items ++ xs) path_field))
    c.put_path.ensures.ok

pub returns-clause-memory : goal.returns-clause-memory
returns-clause-memory c =
    on_err_weaker c.put_path.result
    (λ kept. front-stays c.args.out.now.items _ _ _ (appended_three c.args.out.now.items _ _ _ _ _ _ c.in_ok-put_u32.ensures.ok c.in_ok-put_u8.ensures.ok c.in_ok-sign.ensures.ok) kept)
    c.put_path.ensures.memory
