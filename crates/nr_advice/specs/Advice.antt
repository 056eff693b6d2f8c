-- What stands at the end of what a person is told.
use Rattle.std.specs.Prelude.{◌≡◌, ℕ, List, [], ◌∷◌, ◌++◌, codes}
use Rattle.nr_advice.specs.Commands.{told}
use Rattle.nr_advice.specs.declared.sentences.Sentence.{Sentence}

-- the text ends with these bytes
abbrev pub Ends : List ℕ → List ℕ → Type 0
Ends end text = (front : List ℕ) × (text ≡ front ++ end)

-- a sentence as it is written: what the line means, and what to do next
abbrev pub sentence_text : Sentence → List ℕ
sentence_text row = told (row.means.now ∷ codes "\n" ∷ row.next.now ∷ codes "\n" ∷ [])
