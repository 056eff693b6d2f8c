-- Texts are refused within them.
use Rattle.std.proofs.Common.{◌≡◌, ℕ, ◌≤◌, List, [], ◌∷◌, length, map, min, Result, Ok, Err, refl, ap, sym, subst, ◌∙◌, arith}
use Rattle.nr_spec_rules.specs.Tokens.{Token, place_of, tokens_of}
use Rattle.nr_spec_rules.specs.Parsing.{Outcome}
use Rattle.nr_rule_syntax.specs.declared.tree.Decl.{Decl}
use Rattle.nr_rule_syntax.specs.declared.tree.File.{File}
use Rattle.nr_rule_syntax.specs.Reading as spec
use Rattle.nr_rule_syntax.specs.Reading.{file_in, file_of}
use Rattle.nr_spec_typing.specs.Declarations.{TypedText, typed_text}
use Rattle.nr_laws_typing.specs.Moved.{Move, moved, moved_declaration, moved_fault}
use Rattle.nr_laws_places.proofs.Keeps.{AreIn, Kept, Stays}
use Rattle.nr_laws_places.proofs.Texts.{declarations_keep}
use Rattle.nr_laws_places.proofs.Tokens.{text_tokens_in}

-- each place past the last is moved to the last
abbrev back : ℕ → Move
back most n = min n most

back_stays : (most : ℕ) → Stays most (back most)
back_stays most = record { stays = λ n h. omega (arith, h) }

kept : (text : List ℕ) → Kept (length text) (map (moved_declaration (back (length text)))) (spec.declarations (tokens_of text))
kept text = (declarations_keep (back_stays (length text))).keeps (tokens_of text) (text_tokens_in text)

err_is : {A : Type 0} (p q : ℕ) → (let r : Result A ℕ = Err p in r) ≡ Err q → p ≡ q
err_is p q e = cc

refused_in : (most : ℕ) (m : List Decl → List Decl) (read : Outcome (List Decl)) (place : ℕ) → Kept most m read → file_in read ≡ Err place → place ≤ most
refused_in most m (Ok p) place k e = absurd cc
refused_in most m (Err q) place k e = subst (λ (n : ℕ). n ≤ most) (err_is {A = File} q place e) k

pub file_refused : (text : List ℕ) (place : ℕ) → file_of text ≡ Err place → place ≤ length text
unfolding file_of
file_refused text place e = refused_in (length text) (map (moved_declaration (back (length text)))) (spec.declarations (tokens_of text)) place (kept text) e

end_in : (most : ℕ) (ts : List Token) → AreIn most ts → place_of ts ≤ most
end_in most [] i = omega arith
end_in most (t ∷ ts) i = let h = i.0 in omega (arith, h)

ok_is : (f g : File) → (let r : Result File ℕ = Ok f in r) ≡ Ok g → f ≡ g
ok_is f g e = cc

stays_of : (most : ℕ) (read : Outcome (List Decl)) (file : File) → Kept most (map (moved_declaration (back most))) read → file_in read ≡ Ok file → moved (back most) file ≡ file
stays_of most (Ok p) file k e =
    let made : File = record { decls = p.0; end = place_of p.1 } in
    let end : back most (place_of p.1) ≡ place_of p.1 = (back_stays most).stays (place_of p.1) (end_in most p.1 k.1) in
    let decls : map (moved_declaration (back most)) p.0 ≡ p.0 = k.0 in
    let stays : moved (back most) made ≡ made = rw (end, decls) refl in
    subst (λ (f : File). moved (back most) f ≡ f) (ok_is made file e) stays
stays_of most (Err q) file k e = absurd cc

file_stays : (text : List ℕ) (file : File) → file_of text ≡ Ok file → moved (back (length text)) file ≡ file
unfolding file_of
file_stays text file e = stays_of (length text) (spec.declarations (tokens_of text)) file (kept text) e

-- a move that changes nothing moves no fault
pub typing_refused : ((to : Move) (file : File) → typed_text (moved to file) ≡ moved_fault to (typed_text file))
    → (text : List ℕ) (file : File) (place : ℕ) → file_of text ≡ Ok file → typed_text file ≡ Err place → place ≤ length text
typing_refused law text file place read e =
    let most = length text in
    let there : moved_fault (back most) (typed_text file) ≡ Err (back most place) = ap (moved_fault (back most)) e in
    let same : (let r : Result TypedText ℕ = Err place in r) ≡ Err (back most place) =
    sym e ∙ ap typed_text (sym (file_stays text file read)) ∙ law (back most) file ∙ there in
    let is : place ≡ back most place = err_is place (back most place) same in
    omega (arith, is)
