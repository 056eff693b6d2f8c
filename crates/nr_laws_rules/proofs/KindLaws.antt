-- Kinds of tokens, and what of a list of tokens is seen by its first alone.
use Rattle.std.proofs.Common.{◌≡◌, true, false, List, [], ◌∷◌, ◌++◌, Option, Some, None, refl, sym, ap, ◌∙◌}
use denote.Enum.Bare.{same_true, true_same}
use Rattle.nr_spec_rules.specs.contracts.kind.Kind.{the_type}
use Rattle.nr_spec_rules.specs.declared.kind.Kind.{Kind}
use Rattle.nr_spec_rules.specs.Tokens.{Token, same_kind, kind_of, goes_on}
use Rattle.nr_spec_rules.specs.Parsing.{sees}

pub kinds_same : (a b : Kind) → same_kind a b ≡ true → a ≡ b
unfolding same_kind
kinds_same a b e = same_true the_type tt a b e

pub same_kinds : (a b : Kind) → a ≡ b → same_kind a b ≡ true
unfolding same_kind
same_kinds a b e = true_same the_type a b e

-- none of these kinds
abbrev pub Free : List Kind → Kind → Type 0
Free [] kind = Unit {0}
Free (x ∷ xs) kind = (same_kind kind x ≡ false) × Free xs kind

-- ---- the first token

abbrev pub first : List Token → Option Token
first [] = None
first (t ∷ ts) = Some t

abbrev pub SameFirst : List Token → List Token → Type 0
SameFirst x y = first x ≡ first y

some_is : (t u : Token) → (let o : Option Token = Some t in o) ≡ Some u → t ≡ u
some_is t u e = cc

-- what a function of the first token alone gives
pub by_first : {B : Type 0} (f : List Token → B) → ((t : Token) (ts : List Token) → f (t ∷ ts) ≡ f (t ∷ [])) → (x y : List Token) → SameFirst x y → f x ≡ f y
by_first f h [] [] e = refl
by_first f h [] (u ∷ y) e = absurd cc
by_first f h (t ∷ x) [] e = absurd cc
by_first f h (t ∷ x) (u ∷ y) e = h t x ∙ ap (λ (v : Token). f (v ∷ [])) (some_is t u e) ∙ sym (h u y)

pub same_behind : (front x y : List Token) → SameFirst x y → SameFirst (front ++ x) (front ++ y)
same_behind [] x y e = e
same_behind (t ∷ front) x y e = refl

pub kind_alike : (x y : List Token) → SameFirst x y → kind_of x ≡ kind_of y
kind_alike = by_first kind_of (λ t ts. refl)

pub sees_alike : (kind : Kind) (x y : List Token) → SameFirst x y → sees kind x ≡ sees kind y
sees_alike kind x y e = ap (λ (a : Kind). same_kind a kind) (kind_alike x y e)

-- ---- tokens behind which others may stand

abbrev pub AllGo : List Token → Type 0
AllGo [] = Unit {0}
AllGo (t ∷ ts) = (goes_on t.kind ≡ true) × AllGo ts

pub all_joined : (a b : List Token) → AllGo a → AllGo b → AllGo (a ++ b)
all_joined [] b h g = g
all_joined (t ∷ a) b h g = (h.0, all_joined a b h.1 g)

pub all_front : (a b : List Token) → AllGo (a ++ b) → AllGo a
all_front [] b h = tt
all_front (t ∷ a) b h = (h.0, all_front a b h.1)

pub all_behind : (a b : List Token) → AllGo (a ++ b) → AllGo b
all_behind [] b h = h
all_behind (t ∷ a) b h = all_behind a b h.1
