-- Tokens of a text end in it.
use Rattle.std.proofs.Common.{◌≡◌, ℕ, zero, suc, ◌+◌, ◌-◌, ◌≤◌, Bool, true, false, cond, List, [], ◌∷◌, length, take, length-take, subst, sym, refl, arith}
use Rattle.nr_spec_rules.specs.declared.kind.Piece.{Piece}
use Rattle.nr_spec_rules.specs.declared.kind.Piece.TheVariants as piece
use Rattle.nr_spec_rules.specs.Tokens.{Token, goes_on, piece_of, tokens_from, tokens_at, tokens_of, with_piece}
use Rattle.nr_laws_places.proofs.Keeps.{AreIn}

by_test : (most : ℕ) (t : Token) (test : Bool) (ts : List Token) → t.from + length t.text ≤ most → AreIn most ts → AreIn most (t ∷ cond test ts [])
by_test most t true ts h all = (h, all)
by_test most t false ts h all = (h, tt)

by_piece : (most : ℕ) (p : Piece) (at : ℕ) (text : List ℕ) (behind : ℕ → List Token) → at + length text ≤ most → ((inside : ℕ) → AreIn most (behind inside)) → AreIn most (with_piece p at text behind)
by_piece most (piece.Gap width) at text behind h all = all (width - 1)
by_piece most (piece.Token kind width) at text behind h all =
    by_test most (record { kind = kind; from = at; text = take width text }) (goes_on kind) (behind (width - 1)) (omega (arith, length-take width text, h)) (all (width - 1))

tokens_in : (most at inside : ℕ) (text : List ℕ) → at + length text ≤ most → AreIn most (tokens_from at inside text)
unfolding tokens_from
tokens_in most at inside [] h = (omega (arith, h), tt)
tokens_in most at (suc inside) (b ∷ text) h = tokens_in most (at + 1) inside text (omega (arith, h))
tokens_in most at zero (b ∷ text) h =
    by_piece most (piece_of (b ∷ text)) at (b ∷ text) (λ inside. tokens_from (at + 1) inside text) h (λ inside. tokens_in most (at + 1) inside text (omega (arith, h)))

pub text_tokens_in : (text : List ℕ) → AreIn (length text) (tokens_of text)
unfolding tokens_at
text_tokens_in text = tokens_in (length text) 0 0 text (omega arith)
