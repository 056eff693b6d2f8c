-- Which sentence of a table is told for a line.
use Rattle.std.specs.Prelude.{ℕ, Bool, ◌&&◌, ◌==◌, nat_eq, nat_le, List, length, Option}
use Rattle.std.specs.List.{find, starts_with}
use Rattle.nr_advice.specs.declared.sentences.Sentence.{Sentence}

-- the sentence is of this status, and of texts that begin with its line and aren't shorter than its least
abbrev pub is_of : ℕ → List ℕ → Sentence → Bool
is_of status text row = row.status == status && (nat_le row.least (length text) && starts_with nat_eq text row.line.now)

-- the first such sentence
abbrev pub sentence_for : List Sentence → ℕ → List ℕ → Option Sentence
sentence_for rows status text = find (is_of status text) rows
