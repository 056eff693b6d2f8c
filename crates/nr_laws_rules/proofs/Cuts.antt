-- A text that was cut between two tokens and goes on with another line: the tokens in front stay.
use Rattle.std.proofs.Common.{◌≡◌, ℕ, suc, ◌+◌, ◌≤◌, Bool, true, false, cond, ◌&&◌, List, [], ◌∷◌, ◌++◌, length, take, slice_index, ◌==◌, nat_le, refl, ap, sym, subst, ◌∙◌, ◌⊎◌, inl, inr, append_assoc, append-nil, length-append, take_at, drop_at, le-leb, arith}
use Rattle.std.specs.Char.{is_ascii_alphabetic, is_ascii_digit, is_ascii_hexdigit}
use Rattle.std.specs.List.{concat, list_all, prefix_len}
use Rattle.std.proofs.lemmas.Bool.{and_parts, and_from}
use Rattle.nr_spec_rules.specs.declared.kind.Kind.{Kind}
use Rattle.nr_spec_rules.specs.declared.kind.Kind.TheVariants as k
use Rattle.nr_spec_rules.specs.declared.kind.Piece.{Piece}
use Rattle.nr_spec_rules.specs.declared.kind.Piece.TheVariants as piece
use Rattle.nr_spec_rules.specs.Tokens.{Token, is_blank, in_word, in_figure, in_comment, word_kind, figure_kind, whole, root, symbol, run, piece_of, tokens_from, tokens_at, tokens_of, goes_on, width_of}
use Rattle.nr_rule_tokens.proofs.Front.{front_gap, front_token}
use Rattle.nr_laws_rules.specs.Texts.{Ends, IsRun, IsLongest, IsBlank, IsComment, AreGaps, IsSpelledBehind, Spells}
use Rattle.nr_laws_rules.proofs.KindLaws.{AllGo}
use Rattle.nr_laws_rules.proofs.Samples.{spelling, sample, placed, beyond, written, spelled_alone}
use Rattle.nr_laws_rules.proofs.Pieces.{IsPiece, piece_is}
use Rattle.nr_laws_rules.proofs.Spelling.{text_spelled, token_longest, more_of, not_none}

-- what now stands behind a part goes on as before, or is another line
abbrev Stops : List ℕ → List ℕ → Type 0
Stops old [] = ⊥
Stops old (b ∷ new) = (b ≡ 10) ⊎ ((rest : List ℕ) × (old ≡ b ∷ rest))

stops_front : (front old new : List ℕ) → Stops old new → Stops (front ++ old) (front ++ new)
stops_front [] old new s = s
stops_front (b ∷ front) old new s = inr (front ++ old, refl)

ends_still : (test : ℕ → Bool) (old new : List ℕ) → test 10 ≡ false → Ends test old → Stops old new → Ends test new
ends_still test old [] line e s = absurd s
ends_still test old (b ∷ new) line e (inl is) = rw is line
ends_still test old (b ∷ new) line e (inr (rest, is)) = subst (λ (l : List ℕ). Ends test l) is e

next_still : (old new : List ℕ) → Stops old new → (slice_index new 0 ≡ slice_index old 0) ⊎ (slice_index new 0 ≡ 10)
next_still old [] s = absurd s
next_still old (b ∷ new) (inl is) = inr is
next_still old (b ∷ new) (inr (rest, is)) = inl (rw is refl)

-- ---- runs

prefix_whole : (test : ℕ → Bool) (bytes behind : List ℕ) → IsRun test bytes behind → prefix_len test (bytes ++ behind) ≡ length bytes
prefix_whole test [] [] r = refl
prefix_whole test [] (b ∷ behind) r = let e : test b ≡ false = r.1 in rw e refl
prefix_whole test (b ∷ bytes) behind r =
    let parts = and_parts (test b) (list_all test bytes) (r.0) in
    let e : test b ≡ true = parts.0 in
    rw e (omega (arith, prefix_whole test bytes behind (parts.1, r.1)))

run_piece : (test : ℕ → Bool) (kind_by : List ℕ → Kind) (bytes behind : List ℕ) → IsRun test bytes behind
    → whole (kind_by (run test (bytes ++ behind))) (prefix_len test (bytes ++ behind)) ≡ whole (kind_by bytes) (length bytes)
run_piece test kind_by bytes behind r =
    ap (λ (n : ℕ). whole (kind_by (take n (bytes ++ behind))) n) (prefix_whole test bytes behind r)
    ∙ ap (λ (l : List ℕ). whole (kind_by l) (length bytes)) (take_at bytes behind (length bytes) refl)

run_still : (test : ℕ → Bool) (kind_by : List ℕ → Kind) (bytes old new : List ℕ) → test 10 ≡ false → IsRun test bytes old → Stops old new
    → whole (kind_by (run test (bytes ++ new))) (prefix_len test (bytes ++ new)) ≡ whole (kind_by (run test (bytes ++ old))) (prefix_len test (bytes ++ old))
run_still test kind_by bytes old new line r s =
    run_piece test kind_by bytes new (r.0, ends_still test old new line (r.1) s) ∙ sym (run_piece test kind_by bytes old r)

-- ---- roots and symbols

root_still : (bytes old new : List ℕ) (kind : Kind) → root (bytes ++ old) ≡ piece.Token kind (suc (length bytes)) → root (bytes ++ new) ≡ piece.Token kind (suc (length bytes))
root_still bytes old new kind is = by_test (nat_le 64 (length (bytes ++ old)) && list_all is_ascii_hexdigit (take 64 (bytes ++ old))) refl is
  where
    by_test : (c : Bool) → (nat_le 64 (length (bytes ++ old)) && list_all is_ascii_hexdigit (take 64 (bytes ++ old))) ≡ c
        → cond c (piece.Token k.Root 65) (piece.Token k.Fault 0) ≡ piece.Token kind (suc (length bytes)) → root (bytes ++ new) ≡ piece.Token kind (suc (length bytes))
    by_test false e h = absurd (omega (arith, ap width_of h))
    by_test true e h =
        let long : length bytes ≡ 64 = omega (arith, ap width_of h) in
        let hex = (and_parts (nat_le 64 (length (bytes ++ old))) (list_all is_ascii_hexdigit (take 64 (bytes ++ old))) e).1 in
        let same : take 64 (bytes ++ new) ≡ take 64 (bytes ++ old) = take_at bytes new 64 long ∙ sym (take_at bytes old 64 long) in
        let within : 64 ≤ length (bytes ++ new) = omega (arith, length-append bytes new) in
        let test : (nat_le 64 (length (bytes ++ new)) && list_all is_ascii_hexdigit (take 64 (bytes ++ new))) ≡ true =
        and_from (nat_le 64 (length (bytes ++ new))) (list_all is_ascii_hexdigit (take 64 (bytes ++ new))) (le-leb 64 (length (bytes ++ new)) within) (ap (list_all is_ascii_hexdigit) same ∙ hex) in
        ap (λ (c : Bool). cond c (piece.Token k.Root 65) (piece.Token k.Fault 0)) test ∙ h

symbol_line : (b next : ℕ) (kind : Kind) → symbol b next ≡ piece.Token kind 1 → symbol b 10 ≡ piece.Token kind 1
unfolding symbol
symbol_line b next kind is = by_tests (b == 60) (b == 62) (b == 33) (next == 61) _ is
  where
    by_tests : (less greater mark both : Bool) (single : Piece)
        → cond less (cond both (piece.Token k.LessOrEqual 2) (piece.Token k.Less 1)) (cond greater (cond both (piece.Token k.GreaterOrEqual 2) (piece.Token k.Greater 1))
        (cond mark (cond both (piece.Token k.Unequal 2) (piece.Token k.Fault 0)) single)) ≡ piece.Token kind 1
        → cond less (piece.Token k.Less 1) (cond greater (piece.Token k.Greater 1) (cond mark (piece.Token k.Fault 0) single)) ≡ piece.Token kind 1
    by_tests less greater mark false single h = h
    by_tests true greater mark true single h = absurd (omega (arith, ap width_of h))
    by_tests false true mark true single h = absurd (omega (arith, ap width_of h))
    by_tests false false true true single h = absurd (omega (arith, ap width_of h))
    by_tests false false false true single h = h

-- what is no blank, letter or digit
plain : ℕ → List ℕ → Piece
plain b text = cond (b == 47 && slice_index text 0 == 47) (piece.Gap (prefix_len in_comment (b ∷ text))) (cond (b == 35) (root text) (symbol b (slice_index text 0)))

no_gap : (n m : ℕ) (kind : Kind) → piece.Gap n ≡ piece.Token kind m → ⊥
no_gap n m kind e = absurd cc

plain_next : (b : ℕ) (bytes old new : List ℕ) (kind : Kind) → (b == 47 && slice_index (bytes ++ new) 0 == 47) ≡ (b == 47 && slice_index (bytes ++ old) 0 == 47)
    → symbol b (slice_index (bytes ++ new) 0) ≡ symbol b (slice_index (bytes ++ old) 0) → plain b (bytes ++ old) ≡ piece.Token kind (suc (length bytes))
    → plain b (bytes ++ new) ≡ piece.Token kind (suc (length bytes))
unfolding plain
plain_next b bytes old new kind e f is = rw e (by_tests (b == 47 && slice_index (bytes ++ old) 0 == 47) (b == 35) is)
  where
    by_tests : (comment mark : Bool) → cond comment (piece.Gap (prefix_len in_comment (b ∷ (bytes ++ old)))) (cond mark (root (bytes ++ old)) (symbol b (slice_index (bytes ++ old) 0))) ≡ piece.Token kind (suc (length bytes))
        → cond comment (piece.Gap (prefix_len in_comment (b ∷ (bytes ++ new)))) (cond mark (root (bytes ++ new)) (symbol b (slice_index (bytes ++ new) 0))) ≡ piece.Token kind (suc (length bytes))
    by_tests true mark h = absurd (no_gap _ _ kind h)
    by_tests false true h = root_still bytes old new kind h
    by_tests false false h = f ∙ h

plain_line : (b : ℕ) (old new : List ℕ) (kind : Kind) → slice_index new 0 ≡ 10 → plain b old ≡ piece.Token kind 1 → plain b new ≡ piece.Token kind 1
unfolding plain
plain_line b old new kind e is = rw e (by_tests (b == 47) (slice_index old 0 == 47) (b == 35) is)
  where
    by_tests : (slash both mark : Bool) → cond (slash && both) (piece.Gap (prefix_len in_comment (b ∷ old))) (cond mark (root old) (symbol b (slice_index old 0))) ≡ piece.Token kind 1
        → cond (slash && false) (piece.Gap (prefix_len in_comment (b ∷ new))) (cond mark (root new) (symbol b 10)) ≡ piece.Token kind 1
    by_tests true true mark h = absurd (no_gap _ _ kind h)
    by_tests true false true h = root_still [] old new kind h
    by_tests true false false h = symbol_line b (slice_index old 0) kind h
    by_tests false both true h = root_still [] old new kind h
    by_tests false both false h = symbol_line b (slice_index old 0) kind h

plain_still : (b : ℕ) (bytes old new : List ℕ) (kind : Kind) → Stops old new → plain b (bytes ++ old) ≡ piece.Token kind (suc (length bytes)) → plain b (bytes ++ new) ≡ piece.Token kind (suc (length bytes))
plain_still b (c ∷ bytes) old new kind s is = plain_next b (c ∷ bytes) old new kind refl refl is
plain_still b [] old new kind s is = by_next (next_still old new s)
  where
    by_next : (slice_index new 0 ≡ slice_index old 0) ⊎ (slice_index new 0 ≡ 10) → plain b new ≡ piece.Token kind 1
    by_next (inl same) = plain_next b [] old new kind (ap (λ (n : ℕ). b == 47 && n == 47) same) (ap (symbol b) same) is
    by_next (inr line) = plain_line b old new kind line is

-- ---- tokens

first_still : (b : ℕ) (bytes old new : List ℕ) (kind : Kind) → IsLongest (b ∷ bytes) old → Stops old new → piece_of (b ∷ (bytes ++ old)) ≡ piece.Token kind (suc (length bytes))
    → piece_of (b ∷ (bytes ++ new)) ≡ piece.Token kind (suc (length bytes))
unfolding piece_of plain
first_still b bytes old new kind longest s is = by_class (is_blank b) (is_ascii_alphabetic b) (is_ascii_digit b) refl refl is
  where
    by_class : (blank letter digit : Bool) → is_ascii_alphabetic b ≡ letter → is_ascii_digit b ≡ digit
        → cond blank (piece.Gap 1) (cond letter (whole (word_kind (run in_word (b ∷ (bytes ++ old)))) (prefix_len in_word (b ∷ (bytes ++ old))))
        (cond digit (whole (figure_kind (run in_figure (b ∷ (bytes ++ old)))) (prefix_len in_figure (b ∷ (bytes ++ old)))) (plain b (bytes ++ old)))) ≡ piece.Token kind (suc (length bytes))
        → cond blank (piece.Gap 1) (cond letter (whole (word_kind (run in_word (b ∷ (bytes ++ new)))) (prefix_len in_word (b ∷ (bytes ++ new))))
        (cond digit (whole (figure_kind (run in_figure (b ∷ (bytes ++ new)))) (prefix_len in_figure (b ∷ (bytes ++ new)))) (plain b (bytes ++ new)))) ≡ piece.Token kind (suc (length bytes))
    by_class true letter digit e f h = absurd (no_gap _ _ kind h)
    by_class false true digit e f h = run_still in_word word_kind (b ∷ bytes) old new refl (longest.0 e) s ∙ h
    by_class false false true e f h = run_still in_figure figure_kind (b ∷ bytes) old new refl (longest.1 f) s ∙ h
    by_class false false false e f h = plain_still b bytes old new kind s h

token_still : (t : Token) (old new : List ℕ) → piece_of (t.text ++ old) ≡ piece.Token t.kind (length t.text) → goes_on t.kind ≡ true → Stops old new
    → piece_of (t.text ++ new) ≡ piece.Token t.kind (length t.text)
token_still t old new is g s = by_text t.text is (token_longest t old is)
  where
    by_text : (bytes : List ℕ) → piece_of (bytes ++ old) ≡ piece.Token t.kind (length bytes) → IsLongest bytes old → piece_of (bytes ++ new) ≡ piece.Token t.kind (length bytes)
    by_text [] is longest = let known = subst (λ (p : Piece). IsPiece p old) is (piece_is old) in absurd (cc (sym g ∙ known.1 refl))
    by_text (b ∷ bytes) is longest = first_still b bytes old new t.kind longest s is

token_passed : (t : Token) (behind : List ℕ) → piece_of (t.text ++ behind) ≡ piece.Token t.kind (length t.text) → goes_on t.kind ≡ true
    → tokens_at t.from (t.text ++ behind) ≡ t ∷ tokens_at (t.from + length t.text) behind
token_passed t behind is g =
    let known = subst (λ (p : Piece). IsPiece p (t.text ++ behind)) is (piece_is (t.text ++ behind)) in
    let front = take_at t.text behind (length t.text) refl in
    let rest = drop_at t.text behind (length t.text) refl in
    front_token t.from (length t.text) t.kind (t.text ++ behind) is known.1 known.0 ∙ rw (front, rest, g) refl

-- ---- gaps

part_still : (part old new : List ℕ) → IsBlank part ⊎ IsComment part old → Stops old new → IsBlank part ⊎ IsComment part new
part_still part old new (inl blank) s = inl blank
part_still part old new (inr (line, is, r)) s = inr (line, is, (r.0, ends_still in_comment old new refl (r.1) s))

gap_piece : (part behind : List ℕ) → IsBlank part ⊎ IsComment part behind → piece_of (part ++ behind) ≡ piece.Gap (length part)
unfolding piece_of
gap_piece part behind (inl (b, is, blank)) = rw (is, blank) refl
gap_piece part behind (inr (line, is, r)) =
    let width : 1 + (1 + prefix_len in_comment (line ++ behind)) ≡ suc (suc (length line)) = omega (arith, prefix_whole in_comment line behind r) in
    rw is (ap (λ (n : ℕ). piece.Gap n) width)

some_part : (part behind : List ℕ) → IsBlank part ⊎ IsComment part behind → 1 ≤ length part
some_part part behind (inl (b, is, blank)) = rw is (omega arith)
some_part part behind (inr (line, is, r)) = rw is (omega arith)

gap_passed : (at : ℕ) (part behind : List ℕ) → IsBlank part ⊎ IsComment part behind → tokens_at at (part ++ behind) ≡ tokens_at (at + length part) behind
gap_passed at part behind g =
    sym (front_gap at (length part) (part ++ behind) (gap_piece part behind g) (some_part part behind g) (omega (arith, length-append part behind)))
    ∙ ap (λ (l : List ℕ). tokens_at (at + length part) l) (drop_at part behind (length part) refl)

gaps_passed : (gaps : List (List ℕ)) (old new : List ℕ) (at : ℕ) → AreGaps gaps old → Stops old new → tokens_at at (concat gaps ++ new) ≡ tokens_at (at + length (concat gaps)) new
gaps_passed [] old new at g s = let e : at ≡ at + 0 = omega arith in ap (λ (n : ℕ). tokens_at n new) e
gaps_passed (part ∷ gaps) old new at g s =
    let e : at + length part + length (concat gaps) ≡ at + length (part ++ concat gaps) = omega (arith, length-append part (concat gaps)) in
    ap (tokens_at at) (append_assoc part (concat gaps) new)
    ∙ gap_passed at part (concat gaps ++ new) (part_still part (concat gaps ++ old) (concat gaps ++ new) (g.0) (stops_front (concat gaps) old new s))
    ∙ gaps_passed gaps old new (at + length part) (g.1) s ∙ ap (λ (n : ℕ). tokens_at n new) e

-- ---- cuts

-- a text in front of a token, which another line follows
pub record Cut (at : ℕ) (text : List ℕ) (before : List Token) (t : Token) : Type 0 where
  pub front : List ℕ
  pub rest : List ℕ
  pub split : text ≡ front ++ rest
  pub same : (new : List ℕ) → tokens_at at (front ++ 10 ∷ new) ≡ before ++ tokens_at t.from (10 ∷ new)

goes_of : (kind : Kind) (text behind : List ℕ) (more : List Token) (others : Type 0) → IsSpelledBehind kind text behind more others → (more ≡ []) ⊎ (goes_on kind ≡ true)
goes_of k.End text behind more others s = inl s.2
goes_of k.Fault text behind more others s = inl s.1
goes_of _ text behind more others s = inr refl

cut : (at : ℕ) (text : List ℕ) (before : List Token) (t : Token) (tail : List Token) → Spells at text (before ++ t ∷ tail) → Cut at text before t
cut at text [] t tail s = record {
  front = concat s.gaps;
  rest = t.text ++ s.behind;
  split = s.split;
  same = λ new. gaps_passed s.gaps (t.text ++ s.behind) (10 ∷ new) at s.between (inl refl) ∙ ap (λ (n : ℕ). tokens_at n (10 ∷ new)) (sym s.place);
}
cut at text (u ∷ before) t tail s =
    by_rest (more_of u.kind u.text s.behind (before ++ t ∷ tail) (Spells (u.from + length u.text) s.behind (before ++ t ∷ tail)) s.rest) (goes_of u.kind u.text s.behind (before ++ t ∷ tail) _ s.rest)
    (λ others. cut (u.from + length u.text) s.behind before t tail others)
  where
    joined : goes_on u.kind ≡ true → Cut (u.from + length u.text) s.behind before t → Cut at text (u ∷ before) t
    joined g c = record {
      front = concat s.gaps ++ (u.text ++ c.front);
      rest = c.rest;
      split =
          s.split ∙ ap (λ (l : List ℕ). concat s.gaps ++ (u.text ++ l)) c.split ∙ ap (λ (l : List ℕ). concat s.gaps ++ l) (sym (append_assoc u.text c.front c.rest))
          ∙ sym (append_assoc (concat s.gaps) (u.text ++ c.front) c.rest);
      same = λ new.
          let line = c.front ++ 10 ∷ new in
          let stops : Stops s.behind line = subst (λ (l : List ℕ). Stops l line) (sym c.split) (stops_front c.front c.rest (10 ∷ new) (inl refl)) in
          ap (tokens_at at) (append_assoc (concat s.gaps) (u.text ++ c.front) (10 ∷ new) ∙ ap (λ (l : List ℕ). concat s.gaps ++ l) (append_assoc u.text c.front (10 ∷ new)))
          ∙ gaps_passed s.gaps (u.text ++ s.behind) (u.text ++ line) at s.between (stops_front u.text s.behind line stops)
          ∙ ap (λ (n : ℕ). tokens_at n (u.text ++ line)) (sym s.place) ∙ token_passed u line (token_still u s.behind line s.front g stops) g
          ∙ ap (λ (ts : List Token). u ∷ ts) (c.same new);
    }

    by_rest : {S : Type 0} → (before ++ t ∷ tail ≡ []) ⊎ S → (before ++ t ∷ tail ≡ []) ⊎ (goes_on u.kind ≡ true) → (S → Cut (u.from + length u.text) s.behind before t) → Cut at text (u ∷ before) t
    by_rest (inl none) g h = absurd (not_none before t tail none)
    by_rest (inr others) (inl none) h = absurd (not_none before t tail none)
    by_rest (inr others) (inr g) h = joined g (h others)

-- ---- what is written out

spelled_last : (kind : Kind) → goes_on kind ≡ true → piece_of (spelling kind ++ []) ≡ piece.Token kind (length (spelling kind))
spelled_last kind g = ap piece_of (append-nil (spelling kind)) ∙ spelled_alone kind g

spelled : (kind : Kind) (kinds : List Kind) → goes_on kind ≡ true → piece_of (spelling kind ++ written kinds) ≡ piece.Token kind (length (spelling kind))
spelled kind [] g = spelled_last kind g
spelled kind (next ∷ kinds) g = token_still (sample 0 kind) [] (written (next ∷ kinds)) (spelled_last kind g) g (inl refl)

pub end_token : ℕ → Token
end_token at = record { kind = k.End; from = at; text = [] }

pub end_is : (at : ℕ) → (end_token at).kind ≡ k.End
unfolding end_token
end_is at = refl

placed_passed : (at : ℕ) (kinds : List Kind) → AllGo (placed at kinds) → tokens_at at (written kinds) ≡ placed at kinds ++ end_token (beyond at kinds) ∷ []
unfolding tokens_at tokens_from end_token
placed_passed at [] go = refl
placed_passed at (kind ∷ kinds) go =
    gap_passed at (10 ∷ []) (spelling kind ++ written kinds) (inl (10, refl, refl)) ∙ token_passed (sample at kind) (written kinds) (spelled kind kinds (go.0)) (go.0)
    ∙ ap (λ (ts : List Token). sample at kind ∷ ts) (placed_passed (at + 1 + length (spelling kind)) kinds (go.1))

-- a text that begins with the tokens before one, and goes on with others
pub completed : (text : List ℕ) (before : List Token) (t : Token) (tail : List Token) → tokens_of text ≡ before ++ t ∷ tail → (kinds : List Kind) → AllGo (placed (t.from + 1) kinds)
    → (other : List ℕ) × (tokens_of other ≡ before ++ (placed (t.from + 1) kinds ++ end_token (beyond (t.from + 1) kinds) ∷ []))
completed text before t tail split kinds go =
    let c = cut 0 text before t tail (subst (λ (ts : List Token). Spells 0 text ts) split (text_spelled text)) in (
      c.front ++ 10 ∷ written kinds,
      c.same (written kinds) ∙ ap (λ (ts : List Token). before ++ ts) (gap_passed t.from (10 ∷ []) (written kinds) (inl (10, refl, refl)) ∙ placed_passed (t.from + 1) kinds go),
    )
