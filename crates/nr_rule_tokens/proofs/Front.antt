-- What stands in front of a text, beside the list of its tokens.
use Rattle.std.proofs.Common.{◌≡◌, ℕ, zero, suc, ◌+◌, ◌-◌, ◌≤◌, List, [], ◌∷◌, length, take, drop, length-take-le, cond, false, refl, ap, sym, ◌∙◌, arith}
use Rattle.nr_spec_rules.specs.declared.kind.Kind.{Kind}
use Rattle.nr_spec_rules.specs.declared.kind.Kind.TheVariants.{End}
use Rattle.nr_spec_rules.specs.declared.kind.Piece.TheVariants.{Gap, Token}
use Rattle.nr_spec_rules.specs.Tokens as spec
use Rattle.nr_spec_rules.specs.Tokens.{piece_of, tokens_from, tokens_at, goes_on, with_piece}

-- the bytes of a piece that was told are passed
inside_passed : (at n : ℕ) (text : List ℕ) → n ≤ length text → tokens_from at n text ≡ tokens_from (at + n) 0 (drop n text)
unfolding tokens_from
inside_passed at zero text h = let e : at ≡ at + 0 = omega arith in ap (λ k. tokens_from k 0 text) e
inside_passed at (suc n) [] h = absurd (omega arith)
inside_passed at (suc n) (b ∷ text) h =
    let e : at + 1 + n ≡ at + suc n = omega arith in inside_passed (at + 1) n text (omega arith) ∙ ap (λ k. tokens_from k 0 (drop n text)) e

piece_passed : (at n : ℕ) (text : List ℕ) → n ≤ length text → tokens_from (at + 1) (suc n - 1) text ≡ tokens_from (at + suc n) 0 (drop n text)
piece_passed at n text h =
    let one : suc n - 1 ≡ n = omega arith in
    let e : at + 1 + n ≡ at + suc n = omega arith in
    ap (λ k. tokens_from (at + 1) k text) one ∙ inside_passed (at + 1) n text h ∙ ap (λ k. tokens_from k 0 (drop n text)) e

pub front_gap : (at width : ℕ) (text : List ℕ) → piece_of text ≡ Gap width → 1 ≤ width → width ≤ length text
    → tokens_at (at + width) (drop width text) ≡ tokens_at at text
unfolding tokens_at tokens_from
front_gap at width [] is some within = absurd (omega arith)
front_gap at zero (b ∷ text) is some within = absurd (omega arith)
front_gap at (suc n) (b ∷ text) is some within =
    sym (ap (λ p. with_piece p at (b ∷ text) (λ inside. tokens_from (at + 1) inside text)) is ∙ piece_passed at n text (omega arith))

abbrev alone : Kind → ℕ → List spec.Token
alone kind at = record { kind = kind; from = at; text = [] } ∷ []

last_alone : (kind : Kind) (at : ℕ) → Token End 0 ≡ Token kind 0 → alone End at ≡ alone kind at
last_alone kind at is = let e : End ≡ kind = cc in ap (λ (q : Kind). alone q at) e

pub front_token : (at width : ℕ) (kind : Kind) (text : List ℕ) → piece_of text ≡ Token kind width → (width ≡ 0 → goes_on kind ≡ false) → width ≤ length text
    → tokens_at at text ≡ record { kind = kind; from = at; text = take width text } ∷ cond (goes_on kind) (tokens_at (at + width) (drop width text)) []
unfolding tokens_at tokens_from piece_of
front_token at zero kind [] is moves within = rw (moves refl) (last_alone kind at is)
front_token at (suc n) kind [] is moves within = absurd (omega arith)
front_token at zero kind (b ∷ text) is moves within =
    ap (λ p. with_piece p at (b ∷ text) (λ inside. tokens_from (at + 1) inside text)) is ∙ rw (moves refl) refl
front_token at (suc n) kind (b ∷ text) is moves within =
    let t : spec.Token = record { kind = kind; from = at; text = take (suc n) (b ∷ text) } in
    ap (λ p. with_piece p at (b ∷ text) (λ inside. tokens_from (at + 1) inside text)) is
    ∙ ap (λ ts. t ∷ cond (goes_on kind) ts []) (piece_passed at n text (omega arith))

-- the same, of the two parts of the text
pub token_view : (at width : ℕ) (kind : Kind) (text front behind : List ℕ) → piece_of text ≡ Token kind width → (width ≡ 0 → goes_on kind ≡ false) → width ≤ length text
    → front ≡ take width text → behind ≡ drop width text
    → record { kind = kind; from = at; text = front } ∷ cond (goes_on kind) (tokens_at (at + length front) behind) [] ≡ tokens_at at text
token_view at width kind text front behind is moves within f b =
    rw (f, b, length-take-le width text within) (sym (front_token at width kind text is moves within))
