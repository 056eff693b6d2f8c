-- What a line of the program names.
use Rattle.std.specs.Prelude.{ℕ, ◌==◌, Bool, nat_lt, if◌then◌else◌, List, length, codes, Option, None, Some}
use Rattle.std.specs.List.{before_first, position_or_len}
use Rattle.nr_advice.specs.Words.{behind_text}

abbrev pub is_space : ℕ → Bool
is_space byte = byte == 32

-- what stands before the first space of a text that has one
unfoldable pub first_word : List ℕ → Option (List ℕ)
first_word text =
    if nat_lt (position_or_len is_space text) (length text) then Some (before_first is_space text) else None

abbrev pub word_of : Option (List ℕ) → Option (List ℕ)
word_of None = None
word_of (Some text) = first_word text

-- the first that is there
abbrev pub either : Option (List ℕ) → Option (List ℕ) → Option (List ℕ)
either (Some text) other = Some text
either None other = other

-- The file that a line names: all that stands behind `refused nofile`, or the first word behind `refused limit` or
-- `malformed`.
unfoldable pub file_of_line : List ℕ → Option (List ℕ)
file_of_line line =
    either (behind_text (codes "refused nofile ") line)
    (either (word_of (behind_text (codes "refused limit ") line)) (word_of (behind_text (codes "malformed ") line)))
