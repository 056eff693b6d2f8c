-- Pieces one after another, and cutting them apart again.
use Rattle.std.specs.Prelude.{ℕ, zero, suc, ◌*◌, List, [], ◌++◌, take, drop}

-- piece 0, piece 1 and so on, so many of them
unfoldable pub joined : {A : Type 0} → (ℕ → List A) → ℕ → List A
joined piece zero = []
joined piece (suc n) = joined piece n ++ piece n

-- piece number i of what is cut into pieces of this size
abbrev pub piece_of : ℕ → List ℕ → ℕ → List ℕ
piece_of size bytes i = take size (drop (size * i) bytes)
