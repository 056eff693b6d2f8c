-- The hasher holds the text and the AS, which is what the genesis value hashes.
use Rattle.std.proofs.Common.{◌++◌, ◌∙◌, List, ap, ℕ}
use Rattle.std.specs.Prelude.{codes}
use Rattle.sha2.specs.Sha256.{sha256}
use Rattle.nr_spec_log.specs.Chain.{genesis_value}
use Rattle.nr_chain.proofs.digest.genesis.Goals as goal

pub returns : goal.returns
unfolding genesis_value
returns c =
    c.finalize.ensures _ (c.update-2.ensures _ (c.update.ensures _ c.new-hasher.ensures))
    ∙ ap (λ (b : List ℕ). sha256 (codes "netreview 1" ++ b)) c.to_be_bytes.ensures
