-- Where a byte of a text stands.
use Rattle.std.specs.Prelude.{ℕ, ◌+◌, ◌-◌, Bool, not, ◌==◌, List, take, drop}
use Rattle.std.specs.List.{before_first, count_by, suffix_len}

-- a line feed
abbrev pub is_break : ℕ → Bool
is_break byte = byte == 10

abbrev pub is_in_line : ℕ → Bool
is_in_line byte = not (is_break byte)

-- the line of an offset, from 1: one more than the line feeds before it
abbrev pub line_of : List ℕ → ℕ → ℕ
line_of bytes at = count_by is_break (take at bytes) + 1

-- how many bytes of its line stand before an offset
abbrev pub before_in_line : List ℕ → ℕ → ℕ
before_in_line bytes at = suffix_len is_in_line (take at bytes)

-- the column of an offset, from 1
abbrev pub column_of : List ℕ → ℕ → ℕ
column_of bytes at = before_in_line bytes at + 1

-- the whole line of an offset, without its line feed
abbrev pub line_at : List ℕ → ℕ → List ℕ
line_at bytes at = before_first is_break (drop (at - before_in_line bytes at) bytes)
