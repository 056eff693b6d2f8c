-- Options and files among the words of a run.
use Rattle.std.specs.Prelude.{ℕ, ◌-◌, ◌==◌, Bool, true, false, not, ◌||◌, ◌&&◌, nat_eq, nat_le, if◌then◌else◌, List, [], ◌∷◌, length, drop, codes, Option, None, Some}
use Rattle.std.specs.List.{list_any, starts_with}
use Rattle.std.specs.Str.{bytes_eq}

-- what stands behind a text with which a word begins
unfoldable pub behind_text : List ℕ → List ℕ → Option (List ℕ)
behind_text text word = if starts_with nat_eq word text then Some (drop (length text) word) else None

-- the same of a word that may be absent
abbrev pub then_behind : List ℕ → Option (List ℕ) → Option (List ℕ)
then_behind text None = None
then_behind text (Some word) = behind_text text word

-- what stands behind `--NAME`, and behind `--NAME=`
abbrev pub behind_name : List ℕ → List ℕ → Option (List ℕ)
behind_name name word = then_behind name (behind_text (codes "--") word)

abbrev pub joined_value : List ℕ → List ℕ → Option (List ℕ)
joined_value name word = then_behind (codes "=") (behind_name name word)

-- the word is `--NAME`
abbrev pub is_nothing : Option (List ℕ) → Bool
is_nothing None = false
is_nothing (Some rest) = length rest == 0

abbrev pub is_apart : List ℕ → List ℕ → Bool
is_apart name word = is_nothing (behind_name name word)

-- the word may stand as a value or as a file: it is `-`, or doesn't begin with `-`
abbrev pub is_plain_word : List ℕ → Bool
is_plain_word word = bytes_eq word (codes "-") || not (starts_with nat_eq word (codes "-"))

-- the value that the next word is
abbrev pub next_value : List (List ℕ) → Option (List ℕ)
next_value [] = None
next_value (word ∷ words) = if is_plain_word word then Some word else None

-- a word's own value, else the next word's where the word is the name alone, else what further words give
abbrev pub first_value : Option (List ℕ) → Bool → Option (List ℕ) → Option (List ℕ) → Option (List ℕ)
first_value (Some value) apart next further = Some value
first_value None apart next further = if apart then next else further

-- the first value that words give to the option of a name
unfoldable pub value_in : List ℕ → List (List ℕ) → Option (List ℕ)
value_in name [] = None
value_in name (word ∷ words) =
    first_value (joined_value name word) (is_apart name word) (next_value words) (value_in name words)

-- an option whose value is the next word
abbrev pub takes_next : List ℕ → Bool
takes_next word = starts_with nat_eq word (codes "--") && (not (bytes_eq word (codes "--")) && not (list_any (λ byte. byte == 61) word))

-- Of the words that stand as files the one at a place, from 1. A word is passed over where it is the command or a value of
-- an option, and behind `--` every word is a file.
unfoldable pub file_in : Bool → Bool → ℕ → List (List ℕ) → Option (List ℕ)
file_in passed files number [] = None
file_in true files number (word ∷ words) = file_in false files number words
file_in false files number (word ∷ words) =
    if files || is_plain_word word
    then (if nat_le number 1 then Some word else file_in false files (number - 1) words)
    else file_in (takes_next word) (bytes_eq word (codes "--")) number words
