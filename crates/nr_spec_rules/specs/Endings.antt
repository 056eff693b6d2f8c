-- How a list of tokens ends, and where its tokens stand.
use Rattle.std.specs.Prelude.{◌≡◌, ℕ, true, false, List, [], ◌∷◌, length, take, drop}
use Rattle.nr_spec_rules.specs.Tokens.{Token, goes_on}

-- the last token is the end of the text or a fault, and no other is
abbrev pub IsEnded : List Token → Type 0
IsEnded [] = ⊥
IsEnded (t ∷ []) = goes_on t.kind ≡ false
IsEnded (t ∷ u ∷ ts) = (goes_on t.kind ≡ true) × IsEnded (u ∷ ts)

-- a token whose bytes are those of the text at its place
abbrev pub StandsIn : List ℕ → Token → Type 0
StandsIn text t = t.text ≡ take (length t.text) (drop t.from text)
