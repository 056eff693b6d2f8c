-- What this crate's types stand for in the definitions.
use Rattle.nr_heads.specs.Seals as seals
use Rattle.nr_heads.specs.declared.seal.Seal.{Seal}

abbrev pub seal_view : Seal → seals.Seal
seal_view s = record { seq = s.seq; time = s.time; leaf = s.leaf; value = s.value.0 }
