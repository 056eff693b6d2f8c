-- The tokens of a text: where one is a name, its bytes are those of a name.
use Rattle.std.proofs.Common.{◌≡◌, ℕ, zero, suc, ◌+◌, ◌-◌, Bool, true, false, ◌&&◌, ◌||◌, cond, eqb, leb, List, [], ◌∷◌, length, take, get_or, refl, sym, ap, subst, ◌∙◌, arith}
use Rattle.std.specs.Prelude.{is_some}
use Rattle.std.specs.List.{list_all, prefix_len}
use Rattle.std.specs.Char.{is_ascii_alphabetic, is_ascii_digit, is_ascii_hexdigit}
use denote.Enum.Bare.{true_same}
use Rattle.nr_spec_rules.specs.contracts.kind.Kind.{the_type}
use Rattle.nr_spec_rules.specs.declared.kind.Kind.{Kind}
use Rattle.nr_spec_rules.specs.declared.kind.Kind.TheVariants as k
use Rattle.nr_spec_rules.specs.declared.kind.Piece.{Piece}
use Rattle.nr_spec_rules.specs.declared.kind.Piece.TheVariants as piece
use Rattle.nr_spec_rules.specs.Figures.{number_of, address_of, prefix_of, community_of}
use Rattle.nr_spec_rules.specs.Tokens.{Token, in_word, is_blank, in_figure, in_comment, same_kind, word_kind, figure_kind, whole, symbol, run, piece_of, tokens_from, goes_on, with_piece}
use Rattle.nr_rule_syntax.specs.Written.{is_word, is_name_word}
use Rattle.nr_rule_syntax.proofs.Yields.{IsProper, AreProper}

-- a piece in front of a text: where it is a name, so many bytes are those of a name
pub IsProperPiece : List ℕ → Piece → Type 0
IsProperPiece text p = (width : ℕ) → p ≡ piece.Token k.Name width → is_name_word (take width text) ≡ true

either : (text : List ℕ) (test : Bool) (p q : Piece) → IsProperPiece text p → IsProperPiece text q → IsProperPiece text (cond test p q)
unfolding IsProperPiece
either text true p q hp hq = hp
either text false p q hp hq = hq

-- a test that is kept
branch : (text : List ℕ) (test : Bool) (p q : Piece) → (test ≡ true → IsProperPiece text p) → IsProperPiece text q → IsProperPiece text (cond test p q)
unfolding IsProperPiece
branch text true p q hp hq = hp refl
branch text false p q hp hq = hq

gap : (text : List ℕ) (n : ℕ) → IsProperPiece text (piece.Gap n)
unfolding IsProperPiece
gap text n width e = absurd cc

other : (text : List ℕ) (kind : Kind) (n : ℕ) → (kind ≡ k.Name → ⊥) → IsProperPiece text (piece.Token kind n)
unfolding IsProperPiece
other text kind n h width e = absurd (h (cc))

symbol_proper : (text : List ℕ) (b next : ℕ) → IsProperPiece text (symbol b next)
unfolding symbol
symbol_proper text b next =
    either text (eqb b 60) _ _ (either text (eqb next 61) _ _ (other text k.LessOrEqual 2 (λ e. cc)) (other text k.Less 1 (λ e. cc)))
    (either text (eqb b 62) _ _ (either text (eqb next 61) _ _ (other text k.GreaterOrEqual 2 (λ e. cc)) (other text k.Greater 1 (λ e. cc)))
    (either text (eqb b 33) _ _ (either text (eqb next 61) _ _ (other text k.Unequal 2 (λ e. cc)) (other text k.Fault 0 (λ e. cc)))
    (either text (eqb b 59) _ _ (other text k.Semicolon 1 (λ e. cc)) (either text (eqb b 44) _ _ (other text k.Comma 1 (λ e. cc)) (either text (eqb b 61) _ _ (other text k.Equal 1 (λ e. cc))
    (either text (eqb b 40) _ _ (other text k.OpenParen 1 (λ e. cc)) (either text (eqb b 41) _ _ (other text k.CloseParen 1 (λ e. cc))
    (either text (eqb b 123) _ _ (other text k.OpenBrace 1 (λ e. cc)) (either text (eqb b 125) _ _ (other text k.CloseBrace 1 (λ e. cc)) (other text k.Fault 0 (λ e. cc)))))))))))

-- a figure is no name
figure_other : (text figure : List ℕ) (n : ℕ) → IsProperPiece text (whole (figure_kind figure) n)
unfolding figure_kind
figure_other text figure n =
    by_test (is_some (number_of figure)) (is_some (address_of figure)) (is_some (prefix_of figure)) (is_some (community_of figure))
  where
    by_test : (a b c d : Bool) → IsProperPiece text (whole (cond a k.Number (cond b k.Address (cond c k.Prefix (cond d k.Community k.Fault)))) n)
    by_test true b c d = other text k.Number n (λ e. cc)
    by_test false true c d = other text k.Address n (λ e. cc)
    by_test false false true d = other text k.Prefix n (λ e. cc)
    by_test false false false true = other text k.Community n (λ e. cc)
    by_test false false false false = other text k.Fault 0 (λ e. cc)

both_true : (a b : Bool) → a ≡ true → b ≡ true → (a && b) ≡ true
both_true true true p q = refl
both_true true false p q = absurd cc
both_true false b p q = absurd cc

of_letter : (d u l s : Bool) → (u || l) ≡ true → (d || u || l || s) ≡ true
of_letter true u l s e = refl
of_letter false true l s e = refl
of_letter false false true s e = refl
of_letter false false false s e = absurd cc

letter_in_word : (b : ℕ) → is_ascii_alphabetic b ≡ true → in_word b ≡ true
letter_in_word b e = of_letter (leb 48 b && leb b 57) (leb 65 b && leb b 90) (leb 97 b && leb b 122) (eqb b 95) e

run_more : (test : ℕ → Bool) (b : ℕ) (text : List ℕ) (c : Bool) → test b ≡ c → list_all test (run test text) ≡ true → list_all test (take (cond c (1 + prefix_len test text) 0) (b ∷ text)) ≡ true
run_more test b text true e more = let one : 1 + prefix_len test text ≡ suc (prefix_len test text) = omega arith in rw one (both_true (test b) _ e more)
run_more test b text false e more = refl

run_all : (test : ℕ → Bool) (text : List ℕ) → list_all test (run test text) ≡ true
run_all test [] = refl
run_all test (b ∷ text) = run_more test b text (test b) refl (run_all test text)

-- a run behind a letter is a word
word_run : (b : ℕ) (text : List ℕ) (c : Bool) → in_word b ≡ c → is_ascii_alphabetic b ≡ true → list_all in_word (take (cond c (1 + prefix_len in_word text) 0) (b ∷ text)) ≡ true
    → is_word (take (cond c (1 + prefix_len in_word text) 0) (b ∷ text)) ≡ true
word_run b text true e letter all =
    let one : 1 + prefix_len in_word text ≡ suc (prefix_len in_word text) = omega arith in
    rw one (both_true (is_ascii_alphabetic b) _ letter (rw one at all))
word_run b text false e letter all = absurd (cc (letter_in_word b letter))

whole_is : (kind : Kind) (n width : ℕ) → whole kind n ≡ piece.Token k.Name width → (kind ≡ k.Name) × (n ≡ width)
whole_is k.Fault n width e = absurd cc
whole_is kind n width e = (cc, cc)

name_kind : (kind : Kind) → kind ≡ k.Name → same_kind kind k.Name ≡ true
unfolding same_kind
name_kind kind e = true_same the_type kind k.Name e

word_proper_of : (text word : List ℕ) (n : ℕ) (kind : Kind) → take n text ≡ word → is_word word ≡ true → word_kind word ≡ kind → IsProperPiece text (whole kind n)
unfolding IsProperPiece is_name_word
word_proper_of text word n kind t w e width is =
    let of = whole_is kind n width is in
    let named : is_name_word word ≡ true = both_true (is_word word) (same_kind (word_kind word) k.Name) w (name_kind (word_kind word) (e ∙ of.0)) in
    subst (λ (x : List ℕ). is_name_word x ≡ true) (sym t ∙ ap (λ (m : ℕ). take m text) of.1) named

piece_proper : (text : List ℕ) → IsProperPiece text (piece_of text)
unfolding piece_of
piece_proper [] = other [] k.End 0 (λ e. cc)
piece_proper (b ∷ text) =
    either (b ∷ text) (is_blank b) _ _ (gap (b ∷ text) 1)
    (branch (b ∷ text) (is_ascii_alphabetic b) _ _ (λ letter. word_proper_of (b ∷ text) (run in_word (b ∷ text)) (prefix_len in_word (b ∷ text)) (word_kind (run in_word (b ∷ text))) refl
    (word_run b text (in_word b) refl letter (run_all in_word (b ∷ text))) refl)
    (either (b ∷ text) (is_ascii_digit b) _ _ (figure_other (b ∷ text) (run in_figure (b ∷ text)) (prefix_len in_figure (b ∷ text)))
    (either (b ∷ text) (eqb b 47 && eqb (get_or text 0 0) 47) _ _ (gap (b ∷ text) (prefix_len in_comment (b ∷ text)))
    (either (b ∷ text) (eqb b 35) _ _ (either (b ∷ text) (leb 64 (length text) && list_all is_ascii_hexdigit (take 64 text)) _ _ (other (b ∷ text) k.Root 65 (λ e. cc)) (other (b ∷ text) k.Fault 0 (λ e. cc)))
    (symbol_proper (b ∷ text) b (get_or text 0 0))))))

by_test : (t : Token) (test : Bool) (ts : List Token) → IsProper t → AreProper ts → AreProper (t ∷ cond test ts [])
by_test t true ts p all = (p, all)
by_test t false ts p all = (p, tt)

by_piece : (p : Piece) (at : ℕ) (text : List ℕ) (behind : ℕ → List Token) → IsProperPiece text p → ((inside : ℕ) → AreProper (behind inside)) → AreProper (with_piece p at text behind)
unfolding IsProperPiece
by_piece (piece.Gap width) at text behind h all = all (width - 1)
by_piece (piece.Token kind width) at text behind h all =
    by_test (record { kind = kind; from = at; text = take width text }) (goes_on kind) (behind (width - 1)) (λ e. h width (ap (λ (q : Kind). piece.Token q width) e)) (all (width - 1))

pub tokens_proper : (at inside : ℕ) (text : List ℕ) → AreProper (tokens_from at inside text)
unfolding tokens_from
tokens_proper at inside [] = (λ e. cc, tt)
tokens_proper at (suc inside) (b ∷ text) = tokens_proper (at + 1) inside text
tokens_proper at zero (b ∷ text) =
    by_piece (piece_of (b ∷ text)) at (b ∷ text) (λ inside. tokens_from (at + 1) inside text) (piece_proper (b ∷ text)) (λ inside. tokens_proper (at + 1) inside text)
