-- The tokens of a text, one behind another, are the text.
use Rattle.std.proofs.Common.{◌≡◌, ℕ, zero, suc, ◌+◌, ◌≤◌, true, false, cond, List, [], ◌∷◌, ◌++◌, length, take, drop, refl, ap, sym, subst, ◌∙◌, ◌⊎◌, inl, inr, append_assoc, length-append, length-take-le, length-drop, take-append-drop, take_at, drop_at, drop-drop, All, arith}
use Rattle.std.specs.List.{AllByRecursion, concat}
use Rattle.std.proofs.Math.Seq.{drop-nil}
use Rattle.std.proofs.lemmas.List.Elements.{All-from_recursion}
use Rattle.nr_spec_rules.specs.declared.kind.Kind.{Kind}
use Rattle.nr_spec_rules.specs.declared.kind.Kind.TheVariants as k
use Rattle.nr_spec_rules.specs.declared.kind.Piece.{Piece}
use Rattle.nr_spec_rules.specs.declared.kind.Piece.TheVariants as piece
use Rattle.nr_spec_rules.specs.Tokens.{Token, piece_of, tokens_at, tokens_of, goes_on}
use Rattle.nr_rule_tokens.proofs.Front.{front_gap, front_token}
use Rattle.nr_laws_rules.specs.Texts.{IsLongest, IsLongestIn, IsBlank, IsComment, IsSpelledBehind, Spells}
use Rattle.nr_laws_rules.proofs.Pieces.{IsPiece, piece_is}

-- a part more between the tokens
behind_gap : (at : ℕ) (part text : List ℕ) (ts : List Token) → IsBlank part ⊎ IsComment part text → Spells (at + length part) text ts → Spells at (part ++ text) ts
behind_gap at part text [] g s = s
behind_gap at part text (t ∷ ts) g s = record {
  gaps = part ∷ s.gaps;
  behind = s.behind;
  split = ap (λ (l : List ℕ). part ++ l) s.split ∙ sym (append_assoc part (concat s.gaps) (t.text ++ s.behind));
  between = (subst (λ (l : List ℕ). IsBlank part ⊎ IsComment part l) s.split g, s.between);
  place = omega (arith, s.place, length-append part (concat s.gaps));
  front = s.front;
  rest = s.rest;
}

-- ---- what stands behind a token

goes_by : (kind : Kind) (text behind : List ℕ) (more : List Token) (others : Type 0) → (goes_on kind ≡ true → others) → (goes_on kind ≡ false → text ≡ []) → (goes_on kind ≡ false → more ≡ [])
    → (kind ≡ k.End → behind ≡ []) → IsSpelledBehind kind text behind more others
goes_by k.End text behind more others h e m b = (e refl, b refl, m refl)
goes_by k.Fault text behind more others h e m b = (e refl, m refl)
goes_by _ text behind more others h e m b = h refl

at_piece : (at : ℕ) (text : List ℕ) (p : Piece) → piece_of text ≡ p → IsPiece p text
    → ((width : ℕ) → 1 ≤ width → width ≤ length text → Spells (at + width) (drop width text) (tokens_at (at + width) (drop width text))) → Spells at text (tokens_at at text)
at_piece at text (piece.Gap width) is (some, within, part) ih =
    subst (λ (ts : List Token). Spells at text ts) (front_gap at width text is some within)
    (subst (λ (l : List ℕ). Spells at l (tokens_at (at + width) (drop width text))) (take-append-drop width text)
    (behind_gap at (take width text) (drop width text) (tokens_at (at + width) (drop width text)) part
    (subst (λ (n : ℕ). Spells (at + n) (drop width text) (tokens_at (at + width) (drop width text))) (sym (length-take-le width text within)) (ih width some within))))
at_piece at text (piece.Token kind width) is (within, moves, stays, end, longest) ih =
    subst (λ (ts : List Token). Spells at text ts) (sym (front_token at width kind text is moves within))
    (record {
      gaps = [];
      behind = drop width text;
      split = sym (take-append-drop width text);
      between = tt;
      place = omega arith;
      front = ap piece_of (take-append-drop width text) ∙ is ∙ ap (λ (n : ℕ). piece.Token kind n) (sym (length-take-le width text within));
      rest = goes_by kind (take width text) (drop width text) (cond (goes_on kind) (tokens_at (at + width) (drop width text)) []) _ others (λ g. rw (stays g) refl) (λ g. rw g refl) (λ e. rw (end e) (drop-nil width));
    })
  where
    positive : (n : ℕ) → (n ≡ 0 → ⊥) → 1 ≤ n
    positive zero h = absurd (h refl)
    positive (suc n) h = omega arith

    others : goes_on kind ≡ true → Spells (at + length (take width text)) (drop width text) (cond (goes_on kind) (tokens_at (at + width) (drop width text)) [])
    others g = rw (g, length-take-le width text within) (ih width (positive width (λ e. absurd (cc (sym g ∙ moves e)))) within)

spells : (n at : ℕ) (text : List ℕ) → length text ≤ n → Spells at text (tokens_at at text)
spells zero at text short = at_piece at text (piece_of text) refl (piece_is text) (λ width some within. absurd (omega arith))
spells (suc n) at text short = at_piece at text (piece_of text) refl (piece_is text) (λ width some within. spells n (at + width) (drop width text) (omega (arith, length-drop width text)))

pub text_spelled : (text : List ℕ) → Spells 0 text (tokens_of text)
text_spelled text = spells (length text) 0 text (omega arith)

-- ---- longest runs

-- no tokens stand behind a token, or those that spell what is behind
pub more_of : (kind : Kind) (text behind : List ℕ) (more : List Token) (others : Type 0) → IsSpelledBehind kind text behind more others → (more ≡ []) ⊎ others
more_of k.End text behind more others s = inl s.2
more_of k.Fault text behind more others s = inl s.1
more_of _ text behind more others s = inr s

-- what stands behind a front that begins at a place
behind_at : (whole : List ℕ) (at : ℕ) (text front behind : List ℕ) → text ≡ drop at whole → text ≡ front ++ behind → behind ≡ drop (at + length front) whole
behind_at whole at text front behind e split = sym (drop_at front behind (length front) refl) ∙ ap (λ (l : List ℕ). drop (length front) l) (sym split ∙ e) ∙ drop-drop (length front) at whole

pub token_longest : (t : Token) (behind : List ℕ) → piece_of (t.text ++ behind) ≡ piece.Token t.kind (length t.text) → IsLongest t.text behind
token_longest t behind is =
    let known : IsPiece (piece.Token t.kind (length t.text)) (t.text ++ behind) = subst (λ (p : Piece). IsPiece p (t.text ++ behind)) is (piece_is (t.text ++ behind)) in
    subst (λ (l : List ℕ). IsLongest t.text l) (drop_at t.text behind (length t.text) refl)
    (subst (λ (l : List ℕ). IsLongest l (drop (length t.text) (t.text ++ behind))) (take_at t.text behind (length t.text) refl) known.4)

longest_in : (whole : List ℕ) (at : ℕ) (text : List ℕ) (ts : List Token) → Spells at text ts → text ≡ drop at whole → AllByRecursion (IsLongestIn whole) ts
longest_in whole at text [] s e = absurd s
longest_in whole at text (t ∷ ts) s e = (
  subst (λ (l : List ℕ). IsLongest t.text l) after (token_longest t s.behind s.front),
  by_rest (more_of t.kind t.text s.behind ts (Spells (t.from + length t.text) s.behind ts) s.rest) (λ others. longest_in whole (t.from + length t.text) s.behind ts others after),
)
  where
    token_here : t.text ++ s.behind ≡ drop t.from whole
    token_here = rw (s.place) (behind_at whole at text (concat s.gaps) (t.text ++ s.behind) e s.split)

    after : s.behind ≡ drop (t.from + length t.text) whole
    after = behind_at whole t.from (t.text ++ s.behind) t.text s.behind token_here refl

    by_rest : {S : Type 0} → (ts ≡ []) ⊎ S → (S → AllByRecursion (IsLongestIn whole) ts) → AllByRecursion (IsLongestIn whole) ts
    by_rest (inl none) h = rw none tt
    by_rest (inr others) h = h others

pub text_longest : (text : List ℕ) → All (IsLongestIn text) (tokens_of text)
text_longest text = All-from_recursion (IsLongestIn text) (tokens_of text) (longest_in text 0 text (tokens_of text) (text_spelled text) refl)

-- ---- the end of a text

pub not_none : (front : List Token) (t : Token) (tail : List Token) → front ++ t ∷ tail ≡ [] → ⊥
not_none [] t tail e = absurd cc
not_none (u ∷ front) t tail e = absurd cc

end_here : (kind : Kind) (text behind : List ℕ) (more : List Token) (others : Type 0) → kind ≡ k.End → IsSpelledBehind kind text behind more others → (text ≡ []) × (behind ≡ [])
end_here kind text behind more others is s = let at_end = subst (λ (l : Kind). IsSpelledBehind l text behind more others) is s in (at_end.0, at_end.1)

end_at : (at : ℕ) (text : List ℕ) (front : List Token) (t : Token) (tail : List Token) → Spells at text (front ++ t ∷ tail) → t.kind ≡ k.End → t.from ≡ at + length text
end_at at text [] t tail s is =
    let none = end_here t.kind t.text s.behind tail (Spells (t.from + length t.text) s.behind tail) is s.rest in
    omega (arith, s.place, ap length s.split, length-append (concat s.gaps) (t.text ++ s.behind), length-append t.text s.behind, ap length none.0, ap length none.1)
end_at at text (u ∷ front) t tail s is =
    by_rest (more_of u.kind u.text s.behind (front ++ t ∷ tail) (Spells (u.from + length u.text) s.behind (front ++ t ∷ tail)) s.rest) (λ others. end_at (u.from + length u.text) s.behind front t tail others is)
  where
    by_rest : {S : Type 0} → (front ++ t ∷ tail ≡ []) ⊎ S → (S → t.from ≡ u.from + length u.text + length s.behind) → t.from ≡ at + length text
    by_rest (inl none) h = absurd (not_none front t tail none)
    by_rest (inr others) h =
        omega (arith, h others, s.place, ap length s.split, length-append (concat s.gaps) (u.text ++ s.behind), length-append u.text s.behind)

-- the end among the tokens of a text stands at its length
pub end_is_length : (text : List ℕ) (front : List Token) (t : Token) (tail : List Token) → tokens_of text ≡ front ++ t ∷ tail → t.kind ≡ k.End → t.from ≡ length text
end_is_length text front t tail split is =
    let at = end_at 0 text front t tail (subst (λ (ts : List Token). Spells 0 text ts) split (text_spelled text)) is in omega arith
