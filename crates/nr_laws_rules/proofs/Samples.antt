-- Tokens that are written out: one spelling of each kind, each on a line of its own.
use Rattle.std.proofs.Common.{◌≡◌, ℕ, ◌+◌, List, [], ◌∷◌, ◌++◌, length, replicate, codes, refl, ap, true}
use Rattle.nr_spec_rules.specs.declared.kind.Kind.{Kind}
use Rattle.nr_spec_rules.specs.declared.kind.Kind.TheVariants as k
use Rattle.nr_spec_rules.specs.declared.kind.Piece.TheVariants as piece
use Rattle.nr_spec_rules.specs.Figures.{number_of, number_to, address_of, prefix_of, community_of, cut}
use Rattle.nr_spec_rules.specs.Tokens.{Token, piece_of, word_kind, figure_kind, symbol, goes_on}

-- a text of each kind of token behind which others may stand
abbrev pub spelling : Kind → List ℕ
spelling k.Network = codes "network"
spelling k.Commit = codes "commit"
spelling k.Neighbour = codes "neighbour"
spelling k.Group = codes "group"
spelling k.Define = codes "define"
spelling k.Promise = codes "promise"
spelling k.Grace = codes "grace"
spelling k.As = codes "as"
spelling k.At = codes "at"
spelling k.RootWord = codes "root"
spelling k.NumberWord = codes "number"
spelling k.Le = codes "le"
spelling k.Implies = codes "implies"
spelling k.Or = codes "or"
spelling k.And = codes "and"
spelling k.Not = codes "not"
spelling k.True = codes "true"
spelling k.False = codes "false"
spelling k.All = codes "all"
spelling k.Some = codes "some"
spelling k.In = codes "in"
spelling k.If = codes "if"
spelling k.Then = codes "then"
spelling k.Else = codes "else"
spelling k.EndWord = codes "end"
spelling k.Sent = codes "sent"
spelling k.Received = codes "received"
spelling k.Has = codes "has"
spelling k.Crosses = codes "crosses"
spelling k.Is = codes "is"
spelling k.PrefixWord = codes "prefix"
spelling k.Bits = codes "bits"
spelling k.Length = codes "length"
spelling k.Med = codes "med"
spelling k.Pref = codes "pref"
spelling k.Origin = codes "origin"
spelling k.First = codes "first"
spelling k.Last = codes "last"
spelling k.Hop = codes "hop"
spelling k.Asn = codes "asn"
spelling k.Semicolon = codes ";"
spelling k.Comma = codes ","
spelling k.Equal = codes "="
spelling k.Unequal = codes "!="
spelling k.Less = codes "<"
spelling k.LessOrEqual = codes "<="
spelling k.Greater = codes ">"
spelling k.GreaterOrEqual = codes ">="
spelling k.OpenParen = codes "("
spelling k.CloseParen = codes ")"
spelling k.OpenBrace = codes "{"
spelling k.CloseBrace = codes "}"
spelling k.Name = codes "a"
spelling k.Number = codes "0"
spelling k.Address = codes "0.0.0.0"
spelling k.Prefix = codes "0.0.0.0/0"
spelling k.Community = codes "0:0"
spelling k.Root = 35 ∷ replicate 64 48
spelling k.End = []
spelling k.Fault = []

-- the token of this kind that is written at a place, on a line of its own
abbrev pub sample : ℕ → Kind → Token
sample at kind = record { kind = kind; from = at + 1; text = spelling kind }

abbrev pub placed : ℕ → List Kind → List Token
placed at [] = []
placed at (kind ∷ kinds) = sample at kind ∷ placed (at + 1 + length (spelling kind)) kinds

-- the place behind them
abbrev pub beyond : ℕ → List Kind → ℕ
beyond at [] = at
beyond at (kind ∷ kinds) = beyond (at + 1 + length (spelling kind)) kinds

abbrev pub written : List Kind → List ℕ
written [] = []
written (kind ∷ kinds) = 10 ∷ (spelling kind ++ written kinds)

pub placed_joined : (at : ℕ) (a b : List Kind) → placed at (a ++ b) ≡ placed at a ++ placed (beyond at a) b
placed_joined at [] b = refl
placed_joined at (kind ∷ a) b = ap (λ (ts : List Token). sample at kind ∷ ts) (placed_joined (at + 1 + length (spelling kind)) a b)

-- each spelling is a token of its kind
pub spelled_alone : (kind : Kind) → goes_on kind ≡ true → piece_of (spelling kind) ≡ piece.Token kind (length (spelling kind))
unfolding piece_of word_kind figure_kind symbol number_of number_to address_of prefix_of community_of cut
spelled_alone k.End e = absurd cc
spelled_alone k.Fault e = absurd cc
spelled_alone _ e = refl
