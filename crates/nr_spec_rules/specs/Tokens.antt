-- The tokens of a text. The last of them is the end of the text or the first fault: a fault ends the list,
-- so that whatever reads tokens refuses it where it stands.
use Rattle.std.specs.Prelude.{ℕ, zero, suc, ◌+◌, ◌-◌, Bool, true, false, ◌&&◌, ◌||◌, not, List, [], ◌∷◌, length, take, map, slice_index, is_some, nat_le, nat_lt, ◌==◌, if◌then◌else◌}
use Rattle.std.specs.Char.{is_ascii_digit, is_ascii_hexdigit, is_ascii_alphabetic, is_ascii_alphanumeric}
use Rattle.std.specs.List.{prefix_len, list_all}
use Rattle.std.specs.Str.{bytes_eq}
use denote.Enum.Bare.{sameb}
use Rattle.nr_spec_rules.specs.contracts.kind.Kind.{the_type}
use Rattle.nr_spec_rules.specs.declared.kind.Kind.{Kind}
use Rattle.nr_spec_rules.specs.declared.kind.Kind.TheVariants as k
use Rattle.nr_spec_rules.specs.declared.kind.Piece.{Piece}
use Rattle.nr_spec_rules.specs.declared.span.Span.{Span}
use Rattle.nr_spec_rules.specs.declared.kind.Piece.TheVariants as piece
use Rattle.nr_spec_rules.specs.declared.kind.TheConstants.{KEYWORDS}
use Rattle.nr_spec_rules.specs.Figures.{number_of, address_of, prefix_of, community_of}

pub record Token : Type 0 where
  pub kind : Kind
  pub from : ℕ  -- the offset of its first byte
  pub text : List ℕ  -- its bytes, none for the end and for a fault

-- ---- bytes

-- space, tab, CR and LF
abbrev pub is_blank : ℕ → Bool
is_blank b = b == 32 || b == 9 || b == 13 || b == 10

-- a letter, a digit or `_`
abbrev pub in_word : ℕ → Bool
in_word b = is_ascii_alphanumeric b || b == 95

-- a digit, `.`, `:` or `/`
abbrev pub in_figure : ℕ → Bool
in_figure b = is_ascii_digit b || b == 46 || b == 58 || b == 47

-- what a comment goes on with: anything but LF, of ASCII
abbrev pub in_comment : ℕ → Bool
in_comment b = not (b == 10) && nat_lt b 128

-- ---- kinds

-- `==` on kinds
unfoldable pub same_kind : Kind → Kind → Bool
same_kind = sameb the_type

-- the kind of a word: that of a keyword, else a name of at most 32 bytes
abbrev pub kind_among : List (List ℕ × Kind) → List ℕ → Kind
kind_among [] word = if nat_le (length word) 32 then k.Name else k.Fault
kind_among (keyword ∷ more) word = if bytes_eq keyword.0 word then keyword.1 else kind_among more word

unfoldable pub word_kind : List ℕ → Kind
word_kind = kind_among (map (λ keyword. (keyword.0.now, keyword.1)) KEYWORDS)

-- the kind of a text that begins with a digit
unfoldable pub figure_kind : List ℕ → Kind
figure_kind text =
    if is_some (number_of text) then k.Number else (if is_some (address_of text) then k.Address
    else (if is_some (prefix_of text) then k.Prefix
    else (if is_some (community_of text) then k.Community else k.Fault)))

-- ---- pieces

-- a token of this kind and length; a fault has no length
abbrev pub whole : Kind → ℕ → Piece
whole k.Fault width = piece.Token k.Fault 0
whole kind width = piece.Token kind width

-- `#` and 64 hexadecimal digits
abbrev pub root : List ℕ → Piece
root behind =
    if nat_le 64 (length behind)
    && list_all is_ascii_hexdigit (take 64 behind) then piece.Token k.Root 65 else piece.Token k.Fault 0

-- a symbol of one byte, or of two where `=` is the next
abbrev pub with_equal : ℕ → Kind → Kind → Piece
with_equal next alone both = if next == 61 then piece.Token both 2 else piece.Token alone 1

abbrev pub single : ℕ → Piece
single b =
    if b == 59 then piece.Token k.Semicolon 1 else (if b == 44 then piece.Token k.Comma 1
    else (if b == 61 then piece.Token k.Equal 1
    else (if b == 40 then piece.Token k.OpenParen 1 else (if b == 41 then piece.Token k.CloseParen 1
    else (if b == 123 then piece.Token k.OpenBrace 1 else (if b == 125 then piece.Token k.CloseBrace 1
    else piece.Token k.Fault 0))))))

-- by its first byte and the next
unfoldable pub symbol : ℕ → ℕ → Piece
symbol b next =
    if b == 60 then with_equal next k.Less k.LessOrEqual
    else (if b == 62 then with_equal next k.Greater k.GreaterOrEqual
    else (if b == 33 then (if next == 61 then piece.Token k.Unequal 2 else piece.Token k.Fault 0) else single b))

-- the longest run of such bytes
abbrev pub run : (ℕ → Bool) → List ℕ → List ℕ
run test text = take (prefix_len test text) text

-- What stands in front of a text: a blank, a comment, a word, a figure, a root or a symbol.
unfoldable pub piece_of : List ℕ → Piece
piece_of [] = piece.Token k.End 0
piece_of (b ∷ behind) =
    if is_blank b then piece.Gap 1
    else (if is_ascii_alphabetic b then whole (word_kind (run in_word (b ∷ behind))) (prefix_len in_word (b ∷ behind))
    else (if is_ascii_digit b then whole (figure_kind (run in_figure (b ∷ behind))) (prefix_len in_figure (b ∷ behind))
    else (if b == 47 && slice_index behind 0 == 47 then piece.Gap (prefix_len in_comment (b ∷ behind))
    else (if b == 35 then root behind else symbol b (slice_index behind 0)))))

-- ---- tokens

-- whether tokens may stand after one of this kind
abbrev pub goes_on : Kind → Bool
goes_on k.End = false
goes_on k.Fault = false
goes_on _ = true

-- a token, and what is read after it
abbrev pub with_token : Kind → ℕ → ℕ → List ℕ → (ℕ → List Token) → List Token
with_token kind width at text behind =
    record { kind = kind; from = at; text = take width text } ∷ (if goes_on kind then behind (width - 1) else [])

abbrev pub with_piece : Piece → ℕ → List ℕ → (ℕ → List Token) → List Token
with_piece (piece.Gap width) at text behind = behind (width - 1)
with_piece (piece.Token kind width) at text behind = with_token kind width at text behind

-- The tokens of the text from an offset on, of which some first bytes belong to a piece that was told.
unfoldable pub tokens_from : ℕ → ℕ → List ℕ → List Token
tokens_from at inside [] = record { kind = k.End; from = at; text = [] } ∷ []
tokens_from at (suc inside) (b ∷ text) = tokens_from (at + 1) inside text
tokens_from at zero (b ∷ text) =
    with_piece (piece_of (b ∷ text)) at (b ∷ text) (λ inside. tokens_from (at + 1) inside text)

unfoldable pub tokens_at : ℕ → List ℕ → List Token
tokens_at at text = tokens_from at 0 text

-- the tokens of a text
abbrev pub tokens_of : List ℕ → List Token
tokens_of = tokens_at 0

-- ---- how far a piece reaches

abbrev pub width_of : Piece → ℕ
width_of (piece.Gap width) = width
width_of (piece.Token kind width) = width

-- whether it is the last of its text
abbrev pub ends : Piece → Bool
ends (piece.Gap width) = false
ends (piece.Token kind width) = not (goes_on kind)

-- ---- the next token of a list

abbrev pub kind_of : List Token → Kind
kind_of [] = k.End
kind_of (t ∷ ts) = t.kind

abbrev pub place_of : List Token → ℕ
place_of [] = 0
place_of (t ∷ ts) = t.from

abbrev pub text_of : List Token → List ℕ
text_of [] = []
text_of (t ∷ ts) = t.text

abbrev pub span_of : List Token → Span
span_of ts = record { from = place_of ts; to = place_of ts + length (text_of ts) }
