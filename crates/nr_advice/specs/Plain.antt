-- What is shown to a person.
use Rattle.std.specs.Prelude.{ℕ, Bool, IsTrue, nat_le, ◌==◌, ◌&&◌, ◌||◌, if◌then◌else◌, List, All}

-- a terminal shows it as it is
abbrev pub is_printable : ℕ → Bool
is_printable byte = nat_le 32 byte && nat_le byte 126

-- a printable byte, or a line feed
abbrev pub is_plain : ℕ → Bool
is_plain byte = byte == 10 || is_printable byte

-- a byte of a file or of a word as it is shown: a tab is a space, and what can't be shown a question mark
abbrev pub shown : ℕ → ℕ
shown byte = if byte == 9 then 32 else (if is_printable byte then byte else 63)

-- a byte of the program's own text: a line feed stays
abbrev pub spoken : ℕ → ℕ
spoken byte = if byte == 10 then 10 else shown byte

-- printable bytes and line feeds alone
abbrev pub IsPlain : List ℕ → Type 0
IsPlain bytes = All (λ byte. IsTrue (is_plain byte)) bytes
