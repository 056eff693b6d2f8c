-- A list of tokens ends at the end of the text or at the first fault.
use Rattle.std.proofs.Common.{◌≡◌, ℕ, zero, suc, ◌+◌, ◌-◌, Bool, true, false, cond, List, [], ◌∷◌, take, refl}
use Rattle.nr_spec_rules.specs.declared.kind.Piece.{Piece}
use Rattle.nr_spec_rules.specs.declared.kind.Piece.TheVariants.{Gap, Token}
use Rattle.nr_spec_rules.specs.Tokens as spec
use Rattle.nr_spec_rules.specs.Tokens.{piece_of, tokens_from, goes_on, with_piece}
use Rattle.nr_spec_rules.specs.Endings.{IsEnded}

-- a token that goes on, before a list that ends
one_more : (t : spec.Token) (ts : List spec.Token) → goes_on t.kind ≡ true → IsEnded ts → IsEnded (t ∷ ts)
one_more t [] g e = absurd e
one_more t (u ∷ ts) g e = (g, e)

by_test : (t : spec.Token) (test : Bool) (ts : List spec.Token) → goes_on t.kind ≡ test → IsEnded ts → IsEnded (t ∷ cond test ts [])
by_test t true ts g e = one_more t ts g e
by_test t false ts g e = g

by_piece : (p : Piece) (at : ℕ) (text : List ℕ) (behind : ℕ → List spec.Token) → ((inside : ℕ) → IsEnded (behind inside)) → IsEnded (with_piece p at text behind)
by_piece (Gap width) at text behind h = h (width - 1)
by_piece (Token kind width) at text behind h =
    by_test (record { kind = kind; from = at; text = take width text }) (goes_on kind) (behind (width - 1)) refl (h (width - 1))

pub tokens_ended : (at inside : ℕ) (text : List ℕ) → IsEnded (tokens_from at inside text)
unfolding tokens_from
tokens_ended at inside [] = refl
tokens_ended at (suc inside) (b ∷ text) = tokens_ended (at + 1) inside text
tokens_ended at zero (b ∷ text) =
    by_piece (piece_of (b ∷ text)) at (b ∷ text) (λ inside. tokens_from (at + 1) inside text) (λ inside. tokens_ended (at + 1) inside text)
