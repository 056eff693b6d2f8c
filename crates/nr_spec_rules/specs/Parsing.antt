-- Reading a list of tokens from the left, with the place of the first token that is refused.
use Rattle.std.specs.Prelude.{ℕ, zero, suc, Bool, List, [], ◌∷◌, ◌++◌, length, drop, Option, Some, None, Result, Ok, Err, if◌then◌else◌}
use Rattle.nr_spec_rules.specs.declared.kind.Kind.{Kind}
use Rattle.nr_spec_rules.specs.declared.span.Span.{Span}
use Rattle.nr_spec_rules.specs.Tokens.{Token, same_kind, kind_of, place_of, text_of, span_of}

-- what was read and the tokens after it, or the place of the refused token
abbrev pub Outcome : Type 0 → Type 0
Outcome A = Result (A × List Token) ℕ

abbrev pub Parser : Type 0 → Type 0
Parser A = List Token → Outcome A

-- ---- one step after another: a refusal ends the reading

abbrev pub and_then : {A B : Type 0} → Outcome A → (A → Parser B) → Outcome B
and_then (Ok p) f = f p.0 p.1
and_then (Err e) f = Err e

infixl 10 ◌>>=◌
abbrev pub ◌>>=◌ : {A B : Type 0} → Parser A → (A → Parser B) → Parser B
p >>= f = λ ts. and_then (p ts) f

infixl 10 ◌>>◌
abbrev pub ◌>>◌ : {A B : Type 0} → Parser A → Parser B → Parser B
p >> q = p >>= (λ _. q)

abbrev pub pure : {A : Type 0} → A → Parser A
pure a = λ ts. Ok (a, ts)

infixr 11 ◌<$>◌
abbrev pub ◌<$>◌ : {A B : Type 0} → (A → B) → Parser A → Parser B
f <$> p = p >>= (λ x. pure (f x))

-- ---- single tokens

abbrev pub refuse : {A : Type 0} → Parser A
refuse = λ ts. Err (place_of ts)

-- the next token, whatever it is
abbrev pub passed : Parser (Unit {0})
passed = λ ts. Ok (tt, drop 1 ts)

abbrev pub sees : Kind → List Token → Bool
sees kind ts = same_kind (kind_of ts) kind

-- a token of this kind, and where it stands
unfoldable pub expect : Kind → Parser Span
expect kind = λ ts. if sees kind ts then Ok (span_of ts, drop 1 ts) else Err (place_of ts)

abbrev pub found : {A : Type 0} → Option A → Parser (A × Span)
found None = refuse
found (Some x) = λ ts. Ok ((x, span_of ts), drop 1 ts)

-- a token of this kind, what its text stands for, and where it stands
unfoldable pub valued : {A : Type 0} → Kind → (List ℕ → Option A) → Parser (A × Span)
valued kind value = λ ts. if sees kind ts then found (value (text_of ts)) ts else Err (place_of ts)

-- ---- chains

-- one more as often as this kind of token comes next; the number bounds how often
unfoldable pub others : {A : Type 0} → Kind → Parser A → ℕ → Parser (List A)
others between item zero = pure []
others between item (suc n) = λ ts.
    if sees between ts then (do
      first ← item
      more ← others between item n
      pure (first ∷ more)) (drop 1 ts)
    else Ok ([], ts)

-- these, and after them what was read
abbrev pub prepend : {A : Type 0} → List A → Outcome (List A) → Outcome (List A)
prepend front read = and_then read (λ more. pure (front ++ more))

-- a list that begins with this one. Each further one takes a token, so the number of tokens is bound enough.
unfoldable pub following : {A : Type 0} → A → Kind → Parser A → Parser (List A)
following first between item = λ ts. prepend (first ∷ []) (others between item (length ts) ts)

-- one or more, with a token of this kind between
unfoldable pub list : {A : Type 0} → Kind → Parser A → Parser (List A)
list between item = do
  first ← item
  following first between item

-- the same where a list is made into one of its kind, and one alone stays as it is
unfoldable pub chain : {A : Type 0} → Kind → (List A → A) → Parser A → Parser A
chain between make item = do
  first ← item
  (λ ts. if sees between ts then (make <$> following first between item) ts else Ok (first, ts))

-- one after another, until this kind of token comes; each takes a token, so the number of tokens is bound enough
unfoldable pub until : {A : Type 0} → Kind → Parser A → ℕ → Parser (List A)
until closing item zero = pure []
until closing item (suc n) = λ ts.
    if sees closing ts then Ok ([], ts) else (do
      first ← item
      more ← until closing item n
      pure (first ∷ more)) ts
