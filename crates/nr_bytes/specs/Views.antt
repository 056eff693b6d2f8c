-- What this crate's types stand for in the definitions.
use Rattle.std.specs.Prelude.{ℕ}
use Rattle.nr_bytes.specs.declared.fault.Short.{Short}
use Rattle.nr_bytes.specs.declared.fault.Place.{Place}

-- the offset of the field that isn't whole
abbrev pub short_at : Short → ℕ
short_at short = short.0

-- the offset of the field that doesn't read
abbrev pub offset_of : Place → ℕ
offset_of place = place.0
