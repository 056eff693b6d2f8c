-- The bytes of each token are those of the text at its place.
use Rattle.std.proofs.Common.{◌≡◌, ℕ, zero, suc, ◌+◌, ◌-◌, Bool, true, false, cond, List, [], ◌∷◌, length, take, drop, refl, ap, sym, ◌∙◌, arith}
use Rattle.std.specs.List.{AllByRecursion}
use Rattle.nr_spec_rules.specs.declared.kind.Piece.{Piece}
use Rattle.nr_spec_rules.specs.declared.kind.Piece.TheVariants.{Gap, Token}
use Rattle.nr_spec_rules.specs.Tokens as spec
use Rattle.nr_spec_rules.specs.Tokens.{piece_of, tokens_from, goes_on, with_piece}
use Rattle.nr_spec_rules.specs.Endings.{StandsIn}

take_itself : (n : ℕ) (xs : List ℕ) → take n xs ≡ take (length (take n xs)) xs
take_itself zero xs = refl
take_itself (suc n) [] = refl
take_itself (suc n) (x ∷ xs) = ap (λ ys. x ∷ ys) (take_itself n xs)

one_further : (at : ℕ) (whole : List ℕ) → drop 1 (drop at whole) ≡ drop (suc at) whole
one_further zero whole = refl
one_further (suc at) [] = refl
one_further (suc at) (x ∷ whole) = one_further at whole

behind_first : (at b : ℕ) (text whole : List ℕ) → b ∷ text ≡ drop at whole → text ≡ drop (at + 1) whole
behind_first at b text whole e = let n : at + 1 ≡ suc at = omega arith in ap (drop 1) e ∙ one_further at whole ∙ sym (ap (λ k. drop k whole) n)

by_test : (whole : List ℕ) (t : spec.Token) (test : Bool) (ts : List spec.Token) → StandsIn whole t → AllByRecursion (StandsIn whole) ts → AllByRecursion (StandsIn whole) (t ∷ cond test ts [])
by_test whole t true ts s e = (s, e)
by_test whole t false ts s e = (s, tt)

by_piece : (whole : List ℕ) (p : Piece) (at : ℕ) (text : List ℕ) (behind : ℕ → List spec.Token) → text ≡ drop at whole
    → ((inside : ℕ) → AllByRecursion (StandsIn whole) (behind inside)) → AllByRecursion (StandsIn whole) (with_piece p at text behind)
by_piece whole (Gap width) at text behind e h = h (width - 1)
by_piece whole (Token kind width) at text behind e h =
    by_test whole (record { kind = kind; from = at; text = take width text }) (goes_on kind) (behind (width - 1))
    (take_itself width text ∙ ap (λ xs. take (length (take width text)) xs) e) (h (width - 1))

pub tokens_stand : (whole : List ℕ) (at inside : ℕ) (text : List ℕ) → text ≡ drop at whole → AllByRecursion (StandsIn whole) (tokens_from at inside text)
unfolding tokens_from
tokens_stand whole at inside [] e = (refl, tt)
tokens_stand whole at (suc inside) (b ∷ text) e = tokens_stand whole (at + 1) inside text (behind_first at b text whole e)
tokens_stand whole at zero (b ∷ text) e =
    by_piece whole (piece_of (b ∷ text)) at (b ∷ text) (λ inside. tokens_from (at + 1) inside text) e
    (λ inside. tokens_stand whole (at + 1) inside text (behind_first at b text whole e))
