-- How the tokens of a text stand in it: one behind another, with blanks and comments between.
use Rattle.std.specs.Prelude.{◌≡◌, ℕ, ◌+◌, Bool, true, false, List, [], ◌∷◌, ◌++◌, length, drop, ◌⊎◌}
use Rattle.std.specs.Char.{is_ascii_alphabetic, is_ascii_digit}
use Rattle.std.specs.List.{concat, list_all}
use Rattle.nr_spec_rules.specs.declared.kind.Kind.{Kind}
use Rattle.nr_spec_rules.specs.declared.kind.Kind.TheVariants as k
use Rattle.nr_spec_rules.specs.declared.kind.Piece.TheVariants as piece
use Rattle.nr_spec_rules.specs.Tokens.{Token, is_blank, in_word, in_figure, in_comment, piece_of}

-- ---- runs

-- what stands behind a run doesn't go on with it
abbrev pub Ends : (ℕ → Bool) → List ℕ → Type 0
Ends test [] = Unit {0}
Ends test (b ∷ behind) = test b ≡ false

-- a longest run of such bytes, and what stands behind it
abbrev pub IsRun : (ℕ → Bool) → List ℕ → List ℕ → Type 0
IsRun test bytes behind = (list_all test bytes ≡ true) × Ends test behind

-- What begins with a letter is a longest run of letters, digits and `_`, and what begins with a digit one of digits,
-- `.`, `:` and `/`.
abbrev pub IsLongest : List ℕ → List ℕ → Type 0
IsLongest [] behind = Unit {0}
IsLongest (b ∷ bytes) behind =
    (is_ascii_alphabetic b ≡ true → IsRun in_word (b ∷ bytes) behind)
    × (is_ascii_digit b ≡ true → IsRun in_figure (b ∷ bytes) behind)

-- the same of a token, in the text where it stands
abbrev pub IsLongestIn : List ℕ → Token → Type 0
IsLongestIn text t = IsLongest t.text (drop (t.from + length t.text) text)

-- ---- between tokens

-- space, tab, CR or LF
abbrev pub IsBlank : List ℕ → Type 0
IsBlank part = (b : ℕ) × (part ≡ b ∷ []) × (is_blank b ≡ true)

-- `//`, and what is left of the line: all bytes up to LF, to one above 127, or to the end
abbrev pub IsComment : List ℕ → List ℕ → Type 0
IsComment part behind = (line : List ℕ) × (part ≡ 47 ∷ 47 ∷ line) × IsRun in_comment line behind

-- blanks and comments, one behind another
abbrev pub AreGaps : List (List ℕ) → List ℕ → Type 0
AreGaps [] behind = Unit {0}
AreGaps (part ∷ parts) behind = (IsBlank part ⊎ IsComment part (concat parts ++ behind)) × AreGaps parts behind

-- ---- tokens

-- What stands behind a token of this kind: nothing behind the end, no token behind a fault, else the other tokens.
-- The end and a fault have no bytes.
abbrev pub IsSpelledBehind : Kind → List ℕ → List ℕ → List Token → Type 0 → Type 0
IsSpelledBehind k.End text behind more others = (text ≡ []) × (behind ≡ []) × (more ≡ [])
IsSpelledBehind k.Fault text behind more others = (text ≡ []) × (more ≡ [])
IsSpelledBehind _ text behind more others = others

-- The next token of a text that stands at this place, behind blanks and comments. It is the piece in front of what
-- is left, a fault where that begins no token.
pub record IsNext (at : ℕ) (text : List ℕ) (t : Token) (Rest : List ℕ → Type 0) : Type 0 where
  pub gaps : List (List ℕ)
  pub behind : List ℕ
  pub split : text ≡ concat gaps ++ (t.text ++ behind)
  pub between : AreGaps gaps (t.text ++ behind)
  pub place : t.from ≡ at + length (concat gaps)
  pub front : piece_of (t.text ++ behind) ≡ piece.Token t.kind (length t.text)
  pub rest : Rest behind

-- The text from this place on is these tokens, one behind another, up to its end or to the first fault.
abbrev pub Spells : ℕ → List ℕ → List Token → Type 0
Spells at text [] = ⊥
Spells at text (t ∷ more) =
    IsNext at text t (λ behind. IsSpelledBehind t.kind t.text behind more (Spells (t.from + length t.text) behind more))
