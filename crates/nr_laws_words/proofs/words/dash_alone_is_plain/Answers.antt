use Rattle.std.proofs.Common.{◌≡◌, ◌∙◌, ◌≤◌, arith, length, subst, ℕ, List, [], ◌∷◌, ap, sym, refl, encode_utf8_all, IsUtf8}
use Rattle.std.specs.Char.{encode_utf8}
use Rattle.std.specs.Str.{chars}
use Rattle.std.proofs.lemmas.Str.{chars_past_char, encodes-chars, length-le-encodes}
use Rattle.clap.specs.Walk.{is_empty}
use Rattle.nr_laws_words.proofs.Looks.{empty_not}
use Rattle.nr_laws_words.proofs.words.dash_alone_is_plain.Goals as goal

spelled_rest : (rest : List ℕ) → IsUtf8 (45 ∷ rest) → encode_utf8_all (chars rest) ≡ rest
unfolding encode_utf8
spelled_rest rest text =
    let whole : encode_utf8_all (chars (45 ∷ rest)) ≡ 45 ∷ rest = encodes-chars (45 ∷ rest) text in
    let first : chars (45 ∷ rest) ≡ 45 ∷ chars rest = chars_past_char (45 ∷ rest) rest 45 text refl in
    let both : (45 ∷ encode_utf8_all (chars rest)) ≡ 45 ∷ rest = sym (ap encode_utf8_all first) ∙ whole in
    cc

same_empty : (rest : List ℕ) (cs : List ℕ) → encode_utf8_all cs ≡ rest → is_empty cs ≡ is_empty rest
same_empty [] [] e = refl
same_empty (x ∷ xs) [] e = absurd cc
same_empty [] (c ∷ cs) e = absurd (let few : length (c ∷ cs) ≤ 0 = subst (λ (xs : List ℕ). length (c ∷ cs) ≤ length xs) e (length-le-encodes (c ∷ cs)) in omega arith)
same_empty (x ∷ xs) (c ∷ cs) e = empty_not c cs ∙ sym (empty_not x xs)

pub returns : goal.returns
returns c = λ rest text. same_empty rest (chars rest) (spelled_rest rest text)
