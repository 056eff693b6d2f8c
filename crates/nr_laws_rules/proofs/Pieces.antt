-- What is known of the piece that stands in front of a text.
use Rattle.std.proofs.Common.{◌≡◌, ℕ, zero, suc, ◌+◌, ◌≤◌, Bool, true, false, cond, ◌&&◌, ◌||◌, List, [], ◌∷◌, length, take, drop, map, slice_index, ◌==◌, nat_le, refl, ap, sym, ◌∙◌, ◌⊎◌, inl, inr, eqb-true, leb-true, arith}
use Rattle.std.specs.Char.{is_ascii_alphabetic, is_ascii_digit, is_ascii_hexdigit}
use Rattle.std.specs.Int.{is_in_range}
use Rattle.std.specs.List.{list_all, prefix_len}
use Rattle.std.specs.Str.{bytes_eq}
use Rattle.std.proofs.lemmas.Bool.{and_parts, cond_both}
use Rattle.std.proofs.lemmas.List.Sums.{prefix_len-le-length}
use Rattle.nr_spec_rules.specs.declared.kind.Kind.{Kind}
use Rattle.nr_spec_rules.specs.declared.kind.Kind.TheVariants as k
use Rattle.nr_spec_rules.specs.declared.kind.Piece.{Piece}
use Rattle.nr_spec_rules.specs.declared.kind.Piece.TheVariants as piece
use Rattle.nr_spec_rules.specs.declared.kind.TheConstants.{KEYWORDS}
use Rattle.nr_spec_rules.specs.Tokens.{is_blank, in_word, in_figure, in_comment, kind_among, word_kind, figure_kind, whole, root, with_equal, single, symbol, run, piece_of, goes_on}
use Rattle.nr_laws_rules.specs.Texts.{IsRun, IsLongest, IsBlank, IsComment}

-- ---- runs

run_more : (test : ℕ → Bool) (b : ℕ) (text : List ℕ) (c : Bool) → test b ≡ c → IsRun test (take (prefix_len test text) text) (drop (prefix_len test text) text)
    → IsRun test (take (cond c (1 + prefix_len test text) 0) (b ∷ text)) (drop (cond c (1 + prefix_len test text) 0) (b ∷ text))
run_more test b text true e ih = let one : 1 + prefix_len test text ≡ suc (prefix_len test text) = omega arith in rw one (rw e (ih.0), ih.1)
run_more test b text false e ih = (refl, e)

run_is : (test : ℕ → Bool) (text : List ℕ) → IsRun test (take (prefix_len test text) text) (drop (prefix_len test text) text)
run_is test [] = (refl, tt)
run_is test (b ∷ text) = run_more test b text (test b) refl (run_is test text)

some_of : (test : ℕ → Bool) (b : ℕ) (text : List ℕ) → test b ≡ true → 1 ≤ prefix_len test (b ∷ text)
some_of test b text e = rw e (omega arith)

-- ---- pieces

abbrev not_end : Kind → Bool
not_end k.End = false
not_end _ = true

goes_not_end : (kind : Kind) → goes_on kind ≡ true → kind ≡ k.End → ⊥
goes_not_end kind g e = absurd (cc (ap goes_on e))

-- what is known of what stands in front of a text
abbrev pub IsPiece : Piece → List ℕ → Type 0
IsPiece (piece.Gap width) text = (1 ≤ width) × (width ≤ length text) × (IsBlank (take width text) ⊎ IsComment (take width text) (drop width text))
IsPiece (piece.Token kind width) text =
    (width ≤ length text) × (width ≡ 0 → goes_on kind ≡ false) × (goes_on kind ≡ false → width ≡ 0) × (kind ≡ k.End → text ≡ []) × IsLongest (take width text) (drop width text)

longest_of : (n b : ℕ) (text : List ℕ) → (is_ascii_alphabetic b ≡ true → IsRun in_word (take n (b ∷ text)) (drop n (b ∷ text)))
    → (is_ascii_digit b ≡ true → IsRun in_figure (take n (b ∷ text)) (drop n (b ∷ text))) → IsLongest (take n (b ∷ text)) (drop n (b ∷ text))
longest_of zero b text h g = tt
longest_of (suc n) b text h g = (h, g)

fault_is : (b : ℕ) (text : List ℕ) → IsPiece (piece.Token k.Fault 0) (b ∷ text)
fault_is b text = (omega arith, λ _. refl, λ _. refl, λ e. absurd cc, tt)

token_is : (kind : Kind) (n b : ℕ) (text : List ℕ) → goes_on kind ≡ true → 1 ≤ n → n ≤ length (b ∷ text) → IsLongest (take n (b ∷ text)) (drop n (b ∷ text))
    → IsPiece (piece.Token kind n) (b ∷ text)
token_is kind n b text g some within l =
    (within, λ e. absurd (omega arith), λ e. absurd (cc (sym g ∙ e)), λ e. absurd (goes_not_end kind g e), l)

whole_is : (kind : Kind) (n b : ℕ) (text : List ℕ) → not_end kind ≡ true → 1 ≤ n → n ≤ length (b ∷ text) → IsLongest (take n (b ∷ text)) (drop n (b ∷ text))
    → IsPiece (whole kind n) (b ∷ text)
whole_is k.End n b text e some within l = absurd cc
whole_is k.Fault n b text e some within l = fault_is b text
whole_is kind n b text e some within l = token_is kind n b text refl some within l

among_not_end : (table : List (List ℕ × Kind)) (word : List ℕ) → list_all (λ keyword. not_end keyword.1) table ≡ true → not_end (kind_among table word) ≡ true
among_not_end [] word h = cond_both (nat_le (length word) 32) k.Name k.Fault (λ kind. not_end kind ≡ true) (λ _. refl) (λ _. refl)
among_not_end (keyword ∷ table) word h =
    let parts = and_parts (not_end keyword.1) (list_all (λ keyword. not_end keyword.1) table) h in
    cond_both (bytes_eq keyword.0 word) keyword.1 (kind_among table word) (λ kind. not_end kind ≡ true) (λ _. parts.0) (λ _. among_not_end table word parts.1)

word_not_end : (word : List ℕ) → not_end (word_kind word) ≡ true
unfolding word_kind
word_not_end word = among_not_end (map (λ keyword. (keyword.0.now, keyword.1)) KEYWORDS) word refl

by_tests : (a b c d : Bool) → not_end (cond a k.Number (cond b k.Address (cond c k.Prefix (cond d k.Community k.Fault)))) ≡ true
by_tests true b c d = refl
by_tests false true c d = refl
by_tests false false true d = refl
by_tests false false false true = refl
by_tests false false false false = refl

figure_not_end : (text : List ℕ) → not_end (figure_kind text) ≡ true
unfolding figure_kind
figure_not_end text = by_tests _ _ _ _

letter_in_word : (b : ℕ) → is_ascii_alphabetic b ≡ true → in_word b ≡ true
letter_in_word b e = by_classes (is_in_range 48 57 b) (is_in_range 65 90 b) (is_in_range 97 122 b) (b == 95) e
  where
    by_classes : (digit upper lower underscore : Bool) → (upper || lower) ≡ true → (((digit || upper) || lower) || underscore) ≡ true
    by_classes true upper lower underscore h = refl
    by_classes false true lower underscore h = refl
    by_classes false false true underscore h = refl
    by_classes false false false underscore h = absurd cc

digit_in_figure : (b : ℕ) → is_ascii_digit b ≡ true → in_figure b ≡ true
digit_in_figure b e = rw e refl

letter_no_digit : (b : ℕ) → is_ascii_alphabetic b ≡ true → is_ascii_digit b ≡ true → ⊥
letter_no_digit b e f = by_case (is_in_range 65 90 b) refl
  where
    most : b ≤ 57
    most = leb-true b 57 (and_parts (nat_le 48 b) (nat_le b 57) f).1

    by_case : (upper : Bool) → is_in_range 65 90 b ≡ upper → ⊥
    by_case true h = let least = leb-true 65 b (and_parts (nat_le 65 b) (nat_le b 90) h).0 in absurd (omega (arith, most))
    by_case false h = let least = leb-true 97 b (and_parts (nat_le 97 b) (nat_le b 122) (rw h at e)).0 in absurd (omega (arith, most))

no_letter_no_digit : (b n : ℕ) (text : List ℕ) → is_ascii_alphabetic b ≡ false → is_ascii_digit b ≡ false → IsLongest (take n (b ∷ text)) (drop n (b ∷ text))
no_letter_no_digit b n text e f = longest_of n b text (λ g. absurd (cc (sym g ∙ e))) (λ g. absurd (cc (sym g ∙ f)))

word_is : (b : ℕ) (text : List ℕ) → is_ascii_alphabetic b ≡ true → IsPiece (whole (word_kind (run in_word (b ∷ text))) (prefix_len in_word (b ∷ text))) (b ∷ text)
word_is b text e =
    whole_is (word_kind (run in_word (b ∷ text))) (prefix_len in_word (b ∷ text)) b text (word_not_end (run in_word (b ∷ text))) (some_of in_word b text (letter_in_word b e))
    (prefix_len-le-length in_word (b ∷ text)) (longest_of (prefix_len in_word (b ∷ text)) b text (λ _. run_is in_word (b ∷ text)) (λ f. absurd (letter_no_digit b e f)))

figure_is : (b : ℕ) (text : List ℕ) → is_ascii_alphabetic b ≡ false → is_ascii_digit b ≡ true
    → IsPiece (whole (figure_kind (run in_figure (b ∷ text))) (prefix_len in_figure (b ∷ text))) (b ∷ text)
figure_is b text e f =
    whole_is (figure_kind (run in_figure (b ∷ text))) (prefix_len in_figure (b ∷ text)) b text (figure_not_end (run in_figure (b ∷ text))) (some_of in_figure b text (digit_in_figure b f))
    (prefix_len-le-length in_figure (b ∷ text)) (longest_of (prefix_len in_figure (b ∷ text)) b text (λ g. absurd (cc (sym g ∙ e))) (λ _. run_is in_figure (b ∷ text)))

comment_is : (b : ℕ) (text : List ℕ) → (b == 47) ≡ true → (slice_index text 0 == 47) ≡ true → IsPiece (piece.Gap (prefix_len in_comment (b ∷ text))) (b ∷ text)
comment_is b [] e f = absurd cc
comment_is b (c ∷ text) e f =
    let first : b ≡ 47 = eqb-true b 47 e in
    let second : c ≡ 47 = eqb-true c 47 f in
    let r = run_is in_comment text in
    let two : 1 + (1 + prefix_len in_comment text) ≡ suc (suc (prefix_len in_comment text)) = omega arith in
    rw (first, second, two) (omega arith, omega (arith, prefix_len-le-length in_comment text), inr (take (prefix_len in_comment text) text, refl, r))

root_is : (b : ℕ) (text : List ℕ) → is_ascii_alphabetic b ≡ false → is_ascii_digit b ≡ false → IsPiece (root text) (b ∷ text)
root_is b text e f =
    cond_both (nat_le 64 (length text) && list_all is_ascii_hexdigit (take 64 text)) (piece.Token k.Root 65) (piece.Token k.Fault 0) (λ p. IsPiece p (b ∷ text))
    (λ g. token_is k.Root 65 b text refl (omega arith) (enough (and_parts (nat_le 64 (length text)) (list_all is_ascii_hexdigit (take 64 text)) g).0) (no_letter_no_digit b 65 text e f)) (λ _. fault_is b text)
  where
    enough : nat_le 64 (length text) ≡ true → 65 ≤ length (b ∷ text)
    enough h = let least = leb-true 64 (length text) h in omega arith

abbrev Fine : ℕ → List ℕ → Piece → Type 0
Fine b text p = IsPiece p (b ∷ text)

module _ (b : ℕ) (text : List ℕ) (e : is_ascii_alphabetic b ≡ false) (f : is_ascii_digit b ≡ false) where
  one : (kind : Kind) → goes_on kind ≡ true → Fine b text (piece.Token kind 1)
  one kind g = token_is kind 1 b text g (omega arith) (omega arith) (no_letter_no_digit b 1 text e f)

  two_within : (ts : List ℕ) → (slice_index ts 0 == 61) ≡ true → 2 ≤ length (b ∷ ts)
  two_within [] g = absurd cc
  two_within (c ∷ ts) g = omega arith

  double : (kind : Kind) → goes_on kind ≡ true → (slice_index text 0 == 61) ≡ true → Fine b text (piece.Token kind 2)
  double kind g h = token_is kind 2 b text g (omega arith) (two_within text h) (no_letter_no_digit b 2 text e f)

  pair : (kind both : Kind) → goes_on kind ≡ true → goes_on both ≡ true → Fine b text (with_equal (slice_index text 0) kind both)
  pair kind both g h = cond_both (slice_index text 0 == 61) (piece.Token both 2) (piece.Token kind 1) (Fine b text) (λ i. double both h i) (λ _. one kind g)

  alone : Fine b text (single b)
  alone =
      cond_both (b == 59) _ _ (Fine b text) (λ _. one k.Semicolon refl) (λ _. cond_both (b == 44) _ _ (Fine b text) (λ _. one k.Comma refl) (λ _. cond_both (b == 61) _ _ (Fine b text) (λ _. one k.Equal refl)
      (λ _. cond_both (b == 40) _ _ (Fine b text) (λ _. one k.OpenParen refl) (λ _. cond_both (b == 41) _ _ (Fine b text) (λ _. one k.CloseParen refl)
      (λ _. cond_both (b == 123) _ _ (Fine b text) (λ _. one k.OpenBrace refl) (λ _. cond_both (b == 125) _ _ (Fine b text) (λ _. one k.CloseBrace refl) (λ _. fault_is b text)))))))

  symbol_is : Fine b text (symbol b (slice_index text 0))
  unfolding symbol
  symbol_is =
      cond_both (b == 60) _ _ (Fine b text) (λ _. pair k.Less k.LessOrEqual refl refl)
      (λ _. cond_both (b == 62) _ _ (Fine b text) (λ _. pair k.Greater k.GreaterOrEqual refl refl)
      (λ _. cond_both (b == 33) _ _ (Fine b text)
      (λ _. cond_both (slice_index text 0 == 61) _ _ (Fine b text) (λ g. double k.Unequal refl g) (λ _. fault_is b text))
      (λ _. alone)))

pub piece_is : (text : List ℕ) → IsPiece (piece_of text) text
unfolding piece_of
piece_is [] = (omega arith, λ _. refl, λ _. refl, λ _. refl, tt)
piece_is (b ∷ text) =
    cond_both (is_blank b) (piece.Gap 1) _ (λ p. IsPiece p (b ∷ text)) (λ blank. (omega arith, omega arith, inl (b, refl, blank)))
    (λ _. cond_both (is_ascii_alphabetic b) _ _ (λ p. IsPiece p (b ∷ text)) (λ letter. word_is b text letter)
    (λ e. cond_both (is_ascii_digit b) _ _ (λ p. IsPiece p (b ∷ text)) (λ digit. figure_is b text e digit)
    (λ f. cond_both (b == 47 && slice_index text 0 == 47) (piece.Gap (prefix_len in_comment (b ∷ text))) _ (λ p. IsPiece p (b ∷ text))
    (λ g. let parts = and_parts (b == 47) (slice_index text 0 == 47) g in comment_is b text parts.0 parts.1)
    (λ _. cond_both (b == 35) (root text) (symbol b (slice_index text 0)) (λ p. IsPiece p (b ∷ text)) (λ _. root_is b text e f) (λ _. symbol_is b text e f)))))
