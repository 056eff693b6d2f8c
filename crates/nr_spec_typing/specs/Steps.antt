-- What is found step by step, up to the first fault.
use Rattle.std.specs.Prelude.{ℕ, List, [], ◌∷◌, Result, Ok, Err}
use Rattle.nr_spec_wire.specs.Reading.{◌>>=◌}

-- the function, applied to what was found
infixr 11 ◌<$>◌
abbrev pub ◌<$>◌ : {A B : Type 0} → (A → B) → Result A ℕ → Result B ℕ
f <$> (Ok x) = Ok (f x)
f <$> (Err place) = Err place

-- the function, applied to each, one after another
unfoldable pub all_of : {A B : Type 0} → (A → Result B ℕ) → List A → Result (List B) ℕ
all_of f [] = Ok []
all_of f (x ∷ xs) = do
  first ← f x
  others ← all_of f xs
  Ok (first ∷ others)

-- what each makes of what was there before it, one after another
unfoldable pub in_turn : {A S : Type 0} → (S → A → Result S ℕ) → S → List A → Result S ℕ
in_turn step s [] = Ok s
in_turn step s (x ∷ xs) = do
  next ← step s x
  in_turn step next xs
