-- The lines of what the program prints.
use Rattle.std.specs.Prelude.{ℕ, List, [], ◌∷◌, ◌++◌, codes}
use Rattle.std.specs.Fmt.{decimal}
use Rattle.hex.specs.Hex.{encode_lower}
use Rattle.nr_spec_log.specs.Authenticator.{Authenticator}

-- words with one space between them, and one LF after the last
abbrev pub line : List (List ℕ) → List ℕ
line [] = 10 ∷ []
line (word ∷ []) = word ++ 10 ∷ []
line (word ∷ next ∷ others) = word ++ 32 ∷ line (next ∷ others)

abbrev pub conflict_line : Authenticator → List ℕ
conflict_line a = line (codes "conflict" ∷ decimal a.seq ∷ decimal a.time ∷ encode_lower a.hash ∷ [])
