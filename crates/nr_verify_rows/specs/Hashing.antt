-- What a hasher takes in.
use Rattle.std.specs.Prelude.{ℕ, ◌++◌, List}
use Rattle.sha2.specs.Hashers.{Holds256}
use Rattle.sha2.specs.declared.Sha256.{Sha256}

-- new is old with one piece more
pub record Takes (old new : Sha256) (piece : List ℕ) : Type 0 where
  pub all : (m : List ℕ) → Holds256 old m → Holds256 new (m ++ piece)
