use Rattle.std.proofs.Common.{ap, refl, ◌∙◌}
use Rattle.nr_spec_log.specs.Chain.{Chain}
use Rattle.nr_heads.specs.Seals.{seal_of}
use Rattle.nr_heads.proofs.seal.Sealing.new.Goals as goal

pub returns : goal.returns
unfolding seal_of
returns c = record {
  value = ap (λ (chain : Chain). chain.value) c.new.ensures ∙ c.genesis.ensures;
  seq = ap (λ (chain : Chain). chain.seq) c.new.ensures;
  seal = refl;
}
