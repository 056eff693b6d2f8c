-- All that is left, as the bytes up to the end.
use Rattle.std.proofs.Common.{◌≡◌, ◌-◌, length, arith}
use Rattle.std.proofs.lemmas.List.{take_all}
use Rattle.nr_spec_wire.specs.Reading.{Spot, between}

pub all_left : (s t : Spot) → length t.rest ≡ 0 → between s t ≡ s.rest
all_left s t none = rw none (take_all (length s.rest - 0) s.rest (omega arith))
