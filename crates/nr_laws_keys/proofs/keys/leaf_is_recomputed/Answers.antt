use Rattle.nr_spec_keys.proofs.LeafLemmas.{leaf_from-pairs_of}
use Rattle.nr_laws_keys.proofs.keys.leaf_is_recomputed.Goals as goal

pub returns : goal.returns
returns c seed digest leaf = leaf_from-pairs_of seed digest leaf
