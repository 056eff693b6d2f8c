-- Bodies that are too long.
use Rattle.std.specs.Prelude.{◌≡◌, ◌<◌, ℕ}
use Rattle.nr_discipline.specs.declared.encoding.EncodeError.{EncodeError}
use Rattle.nr_discipline.specs.declared.encoding.EncodeError.TheVariants.{TooLong, Memory}

-- an error of a body of that many bytes tells the number, and it is too great
abbrev pub SaysTooLong : EncodeError → ℕ → Type 0
SaysTooLong (TooLong found) size = (found ≡ size) × (536870912 < size)
SaysTooLong Memory size = Unit {0}
