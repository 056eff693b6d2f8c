-- So many values one after another.
use Rattle.std.specs.Prelude.{◌≡◌, ℕ, zero, suc, List, [], ◌∷◌, Result, Ok, Err}
use Rattle.nr_spec_wire.specs.Reading.{Spot, Read, ◌>>=◌}

-- so many values, and where reading stands after them
unfoldable pub counted_at : {A : Type 0} → (Spot → Read A) → ℕ → Spot → Read (List A)
counted_at item zero s = Ok ([], s)
counted_at item (suc n) s = do
  first ← item s
  others ← counted_at item n first.1
  Ok (first.0 ∷ others.0, others.1)

-- Something was read, and reading stands here after it; or this is the place of its fault.
abbrev pub Stops : {X Y E : Type 0} → (E → ℕ) → Result X E → Spot → Read Y → Type 0
Stops {Y = Y} place (Ok x) new read = (y : Y) × (read ≡ Ok (y, new))
Stops place (Err e) new read = read ≡ Err (place e)
