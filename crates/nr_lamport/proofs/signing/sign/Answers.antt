use Rattle.std.proofs.Common.{◌≡◌, ℕ, List, ◌++◌, ◌∙◌, length, drop, ap, refl}
use Rattle.std.proofs.lemmas.Result.{on_ok_weaker}
use Rattle.std.proofs.lemmas.List.{drop_at}
use Rattle.nr_spec_keys.specs.OneTime.{pairs_of, leaf_from, public_leaf_of}
use Rattle.nr_spec_keys.proofs.LeafLemmas.{leaf_from-pairs_of}
use Rattle.nr_lamport.proofs.signing.sign.Goals as goal

recomputed : (seed digest out new : List ℕ) (leaf : ℕ) → new ≡ out ++ pairs_of seed leaf digest → leaf_from (drop (length out) new) digest ≡ public_leaf_of seed leaf
recomputed seed digest out new leaf is =
    ap (λ (pairs : List ℕ). leaf_from pairs digest) (ap (drop (length out)) is ∙ drop_at out (pairs_of seed leaf digest) (length out) refl) ∙ leaf_from-pairs_of seed digest leaf

pub returns-else-is_err-clause-recomputed : goal.returns-else-is_err-clause-recomputed
returns-else-is_err-clause-recomputed c = on_ok_weaker c.put_pairs-signed.result (recomputed c.args.seed.now.0 c.args.digest.now.0 c.args.out.now.items c.put_pairs-signed.new.out.items c.args.leaf) c.put_pairs-signed.ensures.ok
