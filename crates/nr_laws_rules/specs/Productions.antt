-- How the productions of a grammar are built: which tokens stand for which value.
use Rattle.std.specs.Prelude.{◌≡◌, ℕ, List, [], ◌∷◌, ◌++◌, ◌⊎◌, Option, Some}
use Rattle.nr_spec_rules.specs.declared.kind.Kind.{Kind}
use Rattle.nr_spec_rules.specs.declared.span.Span.{Span}
use Rattle.nr_spec_rules.specs.Tokens.{Token, span_of}

-- which tokens stand for which value
abbrev pub StandsFor : Type 0 → Type 1
StandsFor A = List Token → A → Type 0

-- no tokens, for this value
abbrev pub gives : {A : Type 0} → A → StandsFor A
gives a ts value = (ts ≡ []) × (value ≡ a)

-- one part, and behind it what the value of the first makes the other
infixl 10 ◌>>=◌
abbrev pub ◌>>=◌ : {A B : Type 0} → StandsFor A → (A → StandsFor B) → StandsFor B
◌>>=◌ {A} R S ts value =
    (a : A) × (front : List Token) × (back : List Token) × (ts ≡ front ++ back) × R front a × S a back value

-- one part, and behind it another
infixl 10 ◌>>◌
abbrev pub ◌>>◌ : {A B : Type 0} → StandsFor A → StandsFor B → StandsFor B
R >> S = R >>= (λ _. S)

-- the same tokens, for what is made of the value
infixr 11 ◌<$>◌
abbrev pub ◌<$>◌ : {A B : Type 0} → (A → B) → StandsFor A → StandsFor B
f <$> R = R >>= (λ a. gives (f a))

-- either of two
infixr 8 ◌or◌
abbrev pub ◌or◌ : {A : Type 0} → StandsFor A → StandsFor A → StandsFor A
◌or◌ R S ts value = R ts value ⊎ S ts value

-- one token of this kind
abbrev pub one : {A : Type 0} → Kind → (Token → A → Type 0) → StandsFor A
one kind Means ts value = (t : Token) × (ts ≡ t ∷ []) × (t.kind ≡ kind) × Means t value

-- a word or a symbol, for the place where it stands
abbrev pub token : Kind → StandsFor Span
token kind = one kind (λ t span. span ≡ span_of (t ∷ []))

-- a token with a value, for the value and the place
abbrev pub valued : {A : Type 0} → Kind → (List ℕ → Option A) → StandsFor (A × Span)
valued kind value = one kind (λ t x. (value t.text ≡ Some x.0) × (x.1 ≡ span_of (t ∷ [])))

-- any number of them
abbrev pub many : {A : Type 0} → StandsFor A → StandsFor (List A)
many R ts [] = ts ≡ []
many R ts (a ∷ list) = (front : List Token) × (back : List Token) × (ts ≡ front ++ back) × R front a × many R back list

-- one or more
abbrev pub some : {A : Type 0} → StandsFor A → StandsFor (List A)
some R ts [] = ⊥
some R ts (a ∷ list) = many R ts (a ∷ list)

-- one or more, with a token of this kind between
abbrev pub list : {A : Type 0} → Kind → StandsFor A → StandsFor (List A)
list between R = do
  first ← R
  more ← many (token between >> R)
  gives (first ∷ more)

-- the same where two or more are made into one, and one alone stays as it is
abbrev pub chain : {A : Type 0} → Kind → (List A → A) → StandsFor A → StandsFor A
chain between make R = do
  first ← R
  (do
    more ← some (token between >> R)
    gives (make (first ∷ more))) or gives first
