-- The words that a text shows: a word in front of a text is its first, where the text behind it can't go on with it.
use Rattle.std.proofs.Common.{◌≡◌, ℕ, ◌+◌, ◌<◌, Bool, true, false, ◌&&◌, not, cond, eqb, List, [], ◌∷◌, ◌++◌, length, map, drop, get_or, refl, sym, ap, ◌∙◌, arith, length-append}
use Rattle.std.specs.List.{list_all, prefix_len}
use Rattle.std.specs.Char.{is_ascii_alphabetic, is_ascii_digit}
use Rattle.std.proofs.lemmas.List.{take_at, drop_at}
use Rattle.std.proofs.lemmas.Bool.{eqb-true}
use Rattle.std.proofs.lemmas.Bool.Decides.{nat_tests}
use Rattle.nr_spec_rules.specs.declared.kind.Kind.{Kind}
use Rattle.nr_spec_rules.specs.declared.kind.Kind.TheVariants as k
use Rattle.nr_spec_rules.specs.declared.kind.Piece.TheVariants as piece
use Rattle.nr_spec_rules.specs.Tokens.{tokens_at, tokens_from, goes_on, piece_of, is_blank, in_word, in_figure, word_kind, figure_kind, whole, symbol}
use Rattle.nr_rule_tokens.proofs.Front.{front_token, front_gap}
use Rattle.nr_laws_print.proofs.Words.{Shown, word}
use Rattle.nr_laws_print.proofs.Files.{shown}
use Rattle.nr_laws_print.proofs.Figures.{of_both}

-- the words of the tokens of a text, wherever it stands
pub record Shows (text : List ℕ) (ws : List Shown) : Type 0 where
  pub shows : (at : ℕ) → map shown (tokens_at at text) ≡ ws

pub shows_end : Shows [] (word k.End [] ∷ [])
unfolding tokens_at tokens_from
shows_end = record { shows = λ at. refl }

pub shows_gap : (b : ℕ) {rest : List ℕ} {ws : List Shown} → piece_of (b ∷ rest) ≡ piece.Gap 1 → Shows rest ws → Shows (b ∷ rest) ws
shows_gap b {rest} e s = record { shows = λ at. ap (map shown) (sym (front_gap at 1 (b ∷ rest) e (omega arith) (omega arith))) ∙ s.shows (at + 1) }

pub shows_space : {rest : List ℕ} {ws : List Shown} → Shows rest ws → Shows (32 ∷ rest) ws
unfolding piece_of
shows_space s = shows_gap 32 refl s

pub shows_line : {rest : List ℕ} {ws : List Shown} → Shows rest ws → Shows (10 ∷ rest) ws
unfolding piece_of
shows_line s = shows_gap 10 refl s

pub shows_token : (kind : Kind) (text rest : List ℕ) (ws : List Shown) → piece_of (text ++ rest) ≡ piece.Token kind (length text) → goes_on kind ≡ true → 0 < length text
    → Shows rest ws → Shows (text ++ rest) (word kind text ∷ ws)
shows_token kind text rest ws e goes some s = record {
  shows = λ at.
      let front = front_token at (length text) kind (text ++ rest) e (λ none. absurd (omega arith)) (omega (arith, length-append text rest)) in
      let is : cond (goes_on kind) (tokens_at (at + length text) (drop (length text) (text ++ rest))) [] ≡ tokens_at (at + length text) rest = rw (goes, drop_at text rest (length text) refl) refl in
      ap (map shown) front ∙ rw (is, take_at text rest (length text) refl, s.shows (at + length text)) refl;
}

-- ---- what ends a word

-- a byte that goes on with no word, no figure and no symbol
abbrev pub ends_word : ℕ → Bool
ends_word b = not (in_word b) && not (in_figure b)

abbrev pub is_free : List ℕ → Bool
is_free [] = true
is_free (b ∷ rest) = ends_word b

not_is : (b : Bool) → not b ≡ true → b ≡ false
not_is true e = absurd cc
not_is false e = refl

word_stops : (rest : List ℕ) → is_free rest ≡ true → prefix_len in_word rest ≡ 0
word_stops [] h = refl
word_stops (b ∷ rest) h = rw (not_is (in_word b) (of_both (not (in_word b)) (not (in_figure b)) h).0) refl

figure_stops : (rest : List ℕ) → is_free rest ≡ true → prefix_len in_figure rest ≡ 0
figure_stops [] h = refl
figure_stops (b ∷ rest) h = rw (not_is (in_figure b) (of_both (not (in_word b)) (not (in_figure b)) h).1) refl

run_len : (test : ℕ → Bool) (text rest : List ℕ) → list_all test text ≡ true → prefix_len test rest ≡ 0 → prefix_len test (text ++ rest) ≡ length text
run_len test [] rest all stops = stops
run_len test (b ∷ text) rest all stops =
    let both = of_both (test b) (list_all test text) all in
    rw both.0 (omega (arith, run_len test text rest both.1 stops))

-- ---- words

apart_byte : (test : ℕ → Bool) (b c : ℕ) (t : Bool) → eqb b c ≡ t → test b ≡ true → test c ≡ false → t ≡ false
apart_byte test b c true e p q = let same : b ≡ c = eqb-true b c e in absurd (cc (ap test same, p, q))
apart_byte test b c false e p q = refl

no_blank : (test : ℕ → Bool) (b : ℕ) → test b ≡ true → test 32 ≡ false → test 9 ≡ false → test 13 ≡ false → test 10 ≡ false → is_blank b ≡ false
no_blank test b h p q r s =
    rw (apart_byte test b 32 (eqb b 32) refl h p, apart_byte test b 9 (eqb b 9) refl h q, apart_byte test b 13 (eqb b 13) refl h r, apart_byte test b 10 (eqb b 10) refl h s) refl

whole_of : (kind : Kind) (n : ℕ) → goes_on kind ≡ true → whole kind n ≡ piece.Token kind n
whole_of k.Fault n h = absurd cc
whole_of kind n h = refl

word_piece : (kind : Kind) (b : ℕ) (text rest : List ℕ) → is_ascii_alphabetic b ≡ true → list_all in_word (b ∷ text) ≡ true → word_kind (b ∷ text) ≡ kind → goes_on kind ≡ true → is_free rest ≡ true
    → piece_of ((b ∷ text) ++ rest) ≡ piece.Token kind (length (b ∷ text))
unfolding piece_of
word_piece kind b text rest letter all e goes free =
    let len : prefix_len in_word ((b ∷ text) ++ rest) ≡ length (b ∷ text) = run_len in_word (b ∷ text) rest all (word_stops rest free) in
    rw (no_blank is_ascii_alphabetic b letter refl refl refl refl, letter, len, take_at (b ∷ text) rest (length (b ∷ text)) refl, e) (whole_of kind (length (b ∷ text)) goes)

pub shows_word : (kind : Kind) (b : ℕ) (text : List ℕ) {rest : List ℕ} {ws : List Shown} → is_ascii_alphabetic b ≡ true → list_all in_word (b ∷ text) ≡ true → word_kind (b ∷ text) ≡ kind
    → goes_on kind ≡ true → is_free rest ≡ true → Shows rest ws → Shows ((b ∷ text) ++ rest) (word kind (b ∷ text) ∷ ws)
shows_word kind b text {rest} {ws} letter all e goes free s =
    shows_token kind (b ∷ text) rest ws (word_piece kind b text rest letter all e goes free) goes (omega arith) s

-- ---- figures

digit_no_letter : (b : ℕ) → is_ascii_digit b ≡ true → is_ascii_alphabetic b ≡ false
digit_no_letter b h = grind (arith, nat_tests)

figure_piece : (kind : Kind) (b : ℕ) (text rest : List ℕ) → is_ascii_digit b ≡ true → list_all in_figure (b ∷ text) ≡ true → figure_kind (b ∷ text) ≡ kind → goes_on kind ≡ true → is_free rest ≡ true
    → piece_of ((b ∷ text) ++ rest) ≡ piece.Token kind (length (b ∷ text))
unfolding piece_of
figure_piece kind b text rest digit all e goes free =
    let len : prefix_len in_figure ((b ∷ text) ++ rest) ≡ length (b ∷ text) = run_len in_figure (b ∷ text) rest all (figure_stops rest free) in
    rw (no_blank is_ascii_digit b digit refl refl refl refl, digit_no_letter b digit, len, take_at (b ∷ text) rest (length (b ∷ text)) refl, e, digit) (whole_of kind (length (b ∷ text)) goes)

-- a text that begins with a digit
pub record IsFigure (kind : Kind) (text : List ℕ) : Type 0 where
  pub some : 0 < length text
  pub first : is_ascii_digit (get_or text 0 0) ≡ true
  pub all : list_all in_figure text ≡ true
  pub kind_is : figure_kind text ≡ kind

pub shows_figure : (kind : Kind) (text : List ℕ) {rest : List ℕ} {ws : List Shown} → IsFigure kind text → goes_on kind ≡ true → is_free rest ≡ true → Shows rest ws → Shows (text ++ rest) (word kind text ∷ ws)
shows_figure kind [] f goes free s = absurd (omega (arith, f.some))
shows_figure kind (b ∷ text) {rest} {ws} f goes free s =
    shows_token kind (b ∷ text) rest ws (figure_piece kind b text rest f.first f.all f.kind_is goes free) goes (omega arith) s

-- ---- symbols

pub shows_symbol : (kind : Kind) (b : ℕ) {rest : List ℕ} {ws : List Shown} → piece_of (b ∷ rest) ≡ piece.Token kind 1 → goes_on kind ≡ true → Shows rest ws → Shows (b ∷ rest) (word kind (b ∷ []) ∷ ws)
shows_symbol kind b {rest} {ws} e goes s = shows_token kind (b ∷ []) rest ws e goes (omega arith) s

pub shows_open_paren : {rest : List ℕ} {ws : List Shown} → Shows rest ws → Shows (40 ∷ rest) (word k.OpenParen (40 ∷ []) ∷ ws)
unfolding piece_of symbol
shows_open_paren s = shows_symbol k.OpenParen 40 refl refl s

pub shows_close_paren : {rest : List ℕ} {ws : List Shown} → Shows rest ws → Shows (41 ∷ rest) (word k.CloseParen (41 ∷ []) ∷ ws)
unfolding piece_of symbol
shows_close_paren s = shows_symbol k.CloseParen 41 refl refl s

pub shows_semicolon : {rest : List ℕ} {ws : List Shown} → Shows rest ws → Shows (59 ∷ rest) (word k.Semicolon (59 ∷ []) ∷ ws)
unfolding piece_of symbol
shows_semicolon s = shows_symbol k.Semicolon 59 refl refl s

pub shows_comma : {rest : List ℕ} {ws : List Shown} → Shows rest ws → Shows (44 ∷ rest) (word k.Comma (44 ∷ []) ∷ ws)
unfolding piece_of symbol
shows_comma s = shows_symbol k.Comma 44 refl refl s

pub shows_open_brace : {rest : List ℕ} {ws : List Shown} → Shows rest ws → Shows (123 ∷ rest) (word k.OpenBrace (123 ∷ []) ∷ ws)
unfolding piece_of symbol
shows_open_brace s = shows_symbol k.OpenBrace 123 refl refl s

pub shows_close_brace : {rest : List ℕ} {ws : List Shown} → Shows rest ws → Shows (125 ∷ rest) (word k.CloseBrace (125 ∷ []) ∷ ws)
unfolding piece_of symbol
shows_close_brace s = shows_symbol k.CloseBrace 125 refl refl s

pub shows_equal : {rest : List ℕ} {ws : List Shown} → Shows rest ws → Shows (61 ∷ rest) (word k.Equal (61 ∷ []) ∷ ws)
unfolding piece_of symbol
shows_equal s = shows_symbol k.Equal 61 refl refl s

-- a comparison before a blank
pub shows_less : {rest : List ℕ} {ws : List Shown} → Shows (32 ∷ rest) ws → Shows (60 ∷ 32 ∷ rest) (word k.Less (60 ∷ []) ∷ ws)
unfolding piece_of symbol
shows_less s = shows_symbol k.Less 60 refl refl s

pub shows_greater : {rest : List ℕ} {ws : List Shown} → Shows (32 ∷ rest) ws → Shows (62 ∷ 32 ∷ rest) (word k.Greater (62 ∷ []) ∷ ws)
unfolding piece_of symbol
shows_greater s = shows_symbol k.Greater 62 refl refl s

pub shows_unequal : {rest : List ℕ} {ws : List Shown} → Shows rest ws → Shows (33 ∷ 61 ∷ rest) (word k.Unequal (33 ∷ 61 ∷ []) ∷ ws)
unfolding piece_of symbol
shows_unequal {rest} {ws} s = shows_token k.Unequal (33 ∷ 61 ∷ []) rest ws refl refl (omega arith) s

pub shows_less_or_equal : {rest : List ℕ} {ws : List Shown} → Shows rest ws → Shows (60 ∷ 61 ∷ rest) (word k.LessOrEqual (60 ∷ 61 ∷ []) ∷ ws)
unfolding piece_of symbol
shows_less_or_equal {rest} {ws} s = shows_token k.LessOrEqual (60 ∷ 61 ∷ []) rest ws refl refl (omega arith) s

pub shows_greater_or_equal : {rest : List ℕ} {ws : List Shown} → Shows rest ws → Shows (62 ∷ 61 ∷ rest) (word k.GreaterOrEqual (62 ∷ 61 ∷ []) ∷ ws)
unfolding piece_of symbol
shows_greater_or_equal {rest} {ws} s = shows_token k.GreaterOrEqual (62 ∷ 61 ∷ []) rest ws refl refl (omega arith) s

-- ---- keywords

-- a keyword, or any other word of letters
pub record IsKeyword (kind : Kind) (text : List ℕ) : Type 0 where
  pub some : 0 < length text
  pub letter : is_ascii_alphabetic (get_or text 0 0) ≡ true
  pub all : list_all in_word text ≡ true
  pub kind_is : word_kind text ≡ kind
  pub goes : goes_on kind ≡ true

pub shows_keyword : {kind : Kind} {text : List ℕ} {rest : List ℕ} {ws : List Shown} → IsKeyword kind text → is_free rest ≡ true → Shows rest ws → Shows (text ++ rest) (word kind text ∷ ws)
shows_keyword {kind} {text} {rest} {ws} w free s = by_text text w
  where
    by_text : (t : List ℕ) → IsKeyword kind t → Shows (t ++ rest) (word kind t ∷ ws)
    by_text [] w = absurd (omega (arith, w.some))
    by_text (b ∷ t) w = shows_word kind b t w.letter w.all w.kind_is w.goes free s
