-- The canonical text of each part shows the words of that part.
use Rattle.std.proofs.Common.{◌≡◌, ℕ, Bool, true, false, cond, ltb, List, [], ◌∷◌, ◌++◌, map, refl, sym, ap, subst, ◌∙◌, append_assoc, arith, rules}
use Rattle.std.specs.Prelude.{codes}
use Rattle.std.specs.Fmt.{decimal}
use Rattle.std.specs.List.{AllByRecursion, list_all}
use Rattle.std.specs.Char.{is_ascii_alphabetic}
use denote.Enum.Bare.{same_true}
use Rattle.nr_spec_rules.specs.contracts.kind.Kind.{the_type}
use Rattle.nr_spec_rules.specs.declared.kind.Kind.{Kind}
use Rattle.nr_spec_rules.specs.declared.kind.Kind.TheVariants as k
use Rattle.nr_spec_rules.specs.Tokens.{in_word, same_kind, word_kind}
use Rattle.nr_rule_syntax.specs.declared.tree.Name.{Name}
use Rattle.nr_rule_syntax.specs.declared.tree.Side.{Side}
use Rattle.nr_rule_syntax.specs.declared.tree.Side.TheVariants as sides
use Rattle.nr_rule_syntax.specs.declared.tree.Term.{Term}
use Rattle.nr_rule_syntax.specs.declared.tree.Term.TheVariants as terms
use Rattle.nr_rule_syntax.specs.declared.tree.Cmp.{Cmp}
use Rattle.nr_rule_syntax.specs.declared.tree.Cmp.TheVariants as cmps
use Rattle.nr_rule_syntax.specs.Printing as text
use Rattle.nr_rule_syntax.specs.Printing.{spelled, call_text, term_text, comparison_text, compared_text, route_text, community_text, Printed, within}
use Rattle.nr_rule_syntax.specs.Written.{is_word, is_name_word, is_name, is_short, is_term}
use Rattle.nr_laws_print.proofs.Words.{Shown, Words, Worded, word, open_paren, close_paren, term_words, comparison_word, call_words, route_words, words_within, joined, each_behind}
use Rattle.nr_laws_print.proofs.Figures.{of_both}
use Rattle.nr_laws_print.proofs.Shows.{Shows, is_free, IsKeyword, shows_keyword, shows_space, shows_figure, shows_open_paren, shows_close_paren, shows_equal, shows_unequal, shows_less, shows_less_or_equal, shows_greater, shows_greater_or_equal}
use Rattle.nr_laws_print.proofs.FigureKinds.{number_figure, community_figure}
use Rattle.nr_laws_print.proofs.Keywords as key

-- in front of a text that goes on with no word
pub record Spells (piece : List ℕ) (w : Words) : Type 0 where
  pub spells : (rest : List ℕ) (ws : List Shown) → is_free rest ≡ true → Shows rest ws → Shows (piece ++ rest) (w ws)

abbrev pub fronts : List (List ℕ) → List ℕ → List ℕ
fronts [] rest = rest
fronts (p ∷ ps) rest = p ++ fronts ps rest

spelled_fronts : (ps : List (List ℕ)) (rest : List ℕ) → spelled ps ++ rest ≡ fronts ps rest
spelled_fronts [] rest = refl
spelled_fronts (p ∷ ps) rest = append_assoc p (spelled ps) rest ∙ ap (λ (t : List ℕ). p ++ t) (spelled_fronts ps rest)

pub by_fronts : (ps : List (List ℕ)) (w : Words) → ((rest : List ℕ) (ws : List Shown) → is_free rest ≡ true → Shows rest ws → Shows (fronts ps rest) (w ws)) → Spells (spelled ps) w
by_fronts ps w h = record { spells = λ rest ws free s. subst (λ (t : List ℕ). Shows t (w ws)) (sym (spelled_fronts ps rest)) (h rest ws free s) }

-- ---- names and terms

kinds_same : (a b : Kind) → same_kind a b ≡ true → a ≡ b
unfolding same_kind
kinds_same a b e = same_true the_type (search rules) a b e

name_keyword : (w : List ℕ) → is_name_word w ≡ true → IsKeyword k.Name w
unfolding is_name_word
name_keyword [] h = absurd cc
name_keyword (b ∷ w) h =
    let both = of_both (is_word (b ∷ w)) (same_kind (word_kind (b ∷ w)) k.Name) h in
    let letters = of_both (is_ascii_alphabetic b) (list_all in_word (b ∷ w)) both.0 in
    record { some = omega arith; letter = letters.0; all = letters.1; kind_is = kinds_same (word_kind (b ∷ w)) k.Name both.1; goes = refl }

pub shows_name : (n : Name) {rest : List ℕ} {ws : List Shown} → is_name n ≡ true → is_free rest ≡ true → Shows rest ws → Shows (n.word ++ rest) (word k.Name n.word ∷ ws)
shows_name n h free s = shows_keyword (name_keyword n.word h) free s

pub shows_number : (n : ℕ) {rest : List ℕ} {ws : List Shown} → is_short n ≡ true → is_free rest ≡ true → Shows rest ws → Shows (decimal n ++ rest) (word k.Number (decimal n) ∷ ws)
shows_number n h free s = shows_figure k.Number (decimal n) (number_figure n h) refl free s

pub spells_call : (kind : Kind) (w : List ℕ) (of : Name) → IsKeyword kind w → is_name of ≡ true → Spells (call_text w of) (call_words (word kind w) of)
spells_call kind w of key_ h = by_fronts (w ∷ codes "(" ∷ of.word ∷ codes ")" ∷ []) (call_words (word kind w) of) (λ rest ws free s.
    shows_keyword key_ refl (shows_open_paren (shows_name of h refl (shows_close_paren s))))

pub spells_term : (t : Term) → is_term t ≡ true → Spells (term_text t) (term_words t)
spells_term (terms.Number n) h = record { spells = λ rest ws free s. shows_number n.value h free s }
spells_term terms.Bits h = record { spells = λ rest ws free s. shows_keyword key.bits_keyword free s }
spells_term (terms.Length of) h = spells_call k.Length _ of key.length_keyword h
spells_term (terms.Med of) h = spells_call k.Med _ of key.med_keyword h
spells_term (terms.Pref of) h = spells_call k.Pref _ of key.pref_keyword h
spells_term (terms.Origin of) h = spells_call k.Origin _ of key.origin_keyword h
spells_term (terms.First of) h = spells_call k.First _ of key.first_keyword h
spells_term (terms.Last of) h = spells_call k.Last _ of key.last_keyword h
spells_term (terms.Hop of) h = spells_call k.Hop _ of key.hop_keyword h
spells_term (terms.Asn of) h = spells_call k.Asn _ of key.asn_keyword h

-- a comparison, before a blank
pub shows_comparison : (op : Cmp) {rest : List ℕ} {ws : List Shown} → Shows rest ws → Shows (comparison_text op ++ (32 ∷ rest)) (comparison_word op ∷ ws)
shows_comparison cmps.Eq s = shows_equal (shows_space s)
shows_comparison cmps.Ne s = shows_unequal (shows_space s)
shows_comparison cmps.Lt s = shows_less (shows_space s)
shows_comparison cmps.Le s = shows_less_or_equal (shows_space s)
shows_comparison cmps.Gt s = shows_greater (shows_space s)
shows_comparison cmps.Ge s = shows_greater_or_equal (shows_space s)

pub spells_compared : (left right : Term) (op : Cmp) → is_term left ≡ true → is_term right ≡ true → Spells (compared_text left op right) (λ more. term_words left (comparison_word op ∷ term_words right more))
spells_compared left right op l r = by_fronts (term_text left ∷ codes " " ∷ comparison_text op ∷ codes " " ∷ term_text right ∷ []) (λ more. term_words left (comparison_word op ∷ term_words right more)) (λ rest ws free s.
    (spells_term left l).spells (32 ∷ (comparison_text op ++ (32 ∷ (term_text right ++ rest)))) (comparison_word op ∷ term_words right ws) refl
    (shows_space (shows_comparison op ((spells_term right r).spells rest ws free s))))

pub spells_route : (side : Side) (of : Name) → is_name of ≡ true → Spells (route_text side of) (route_words side of)
spells_route sides.Sent of h = spells_call k.Sent _ of key.sent_keyword h
spells_route sides.Received of h = spells_call k.Received _ of key.received_keyword h

pub shows_community : (c : ℕ) {rest : List ℕ} {ws : List Shown} → is_short c ≡ true → is_free rest ≡ true → Shows rest ws → Shows (community_text c ++ rest) (word k.Community (community_text c) ∷ ws)
shows_community c h free s = shows_figure k.Community (community_text c) (community_figure c h) refl free s

-- ---- in parentheses

pub spells_within : (least : ℕ) (p : Printed) (w : Worded) → p.binds ≡ w.binds → Spells p.text w.words → Spells (within least p) (words_within least w)
spells_within least p w same s = by_test (ltb p.binds least) (ltb w.binds least) (ap (λ (n : ℕ). ltb n least) same)
  where
    by_test : (a b : Bool) → a ≡ b → Spells (cond a (spelled (codes "(" ∷ p.text ∷ codes ")" ∷ [])) p.text) (λ more. cond b (open_paren ∷ w.words (close_paren ∷ more)) (w.words more))
    by_test true true e = by_fronts (codes "(" ∷ p.text ∷ codes ")" ∷ []) (λ more. open_paren ∷ w.words (close_paren ∷ more)) (λ rest ws free t. shows_open_paren (s.spells (41 ∷ rest) (close_paren ∷ ws) refl (shows_close_paren t)))
    by_test true false e = absurd cc
    by_test false true e = absurd cc
    by_test false false e = record { spells = λ rest ws free t. s.spells rest ws free t }

-- ---- lists with something between

-- what stands between two: some bytes and their word
pub record Between (bytes : List ℕ) (w : Shown) : Type 0 where
  pub free : (rest : List ℕ) → is_free (bytes ++ rest) ≡ true
  pub shows : (rest : List ℕ) (ws : List Shown) → Shows rest ws → Shows (bytes ++ rest) (w ∷ ws)

pub record Part : Type 0 where
  pub bytes : List ℕ
  pub words : Words

abbrev pub IsPart : Part → Type 0
IsPart p = Spells p.bytes p.words

abbrev pub bytes_of : List Part → List (List ℕ)
bytes_of ps = map (λ p. p.bytes) ps

abbrev pub words_of : List Part → List Words
words_of ps = map (λ p. p.words) ps

free_each : (bytes : List ℕ) (w : Shown) → Between bytes w → (ps : List Part) (rest : List ℕ) → is_free rest ≡ true → is_free (text.each_behind bytes (bytes_of ps) ++ rest) ≡ true
free_each bytes w b [] rest free = free
free_each bytes w b (p ∷ ps) rest free =
    subst (λ (t : List ℕ). is_free t ≡ true) (sym (append_assoc (bytes ++ p.bytes) (text.each_behind bytes (bytes_of ps)) rest ∙ append_assoc bytes p.bytes (text.each_behind bytes (bytes_of ps) ++ rest)))
    (b.free (p.bytes ++ (text.each_behind bytes (bytes_of ps) ++ rest)))

pub spells_each : (bytes : List ℕ) (w : Shown) → Between bytes w → (ps : List Part) → AllByRecursion IsPart ps → Spells (text.each_behind bytes (bytes_of ps)) (each_behind w (words_of ps))
spells_each bytes w b [] all = record { spells = λ rest ws free s. s }
spells_each bytes w b (p ∷ ps) all = record {
  spells = λ rest ws free s.
      let more = (spells_each bytes w b ps all.1).spells rest ws free s in
      let first = all.0.spells (text.each_behind bytes (bytes_of ps) ++ rest) (each_behind w (words_of ps) ws) (free_each bytes w b ps rest free) more in
      subst (λ (t : List ℕ). Shows t (w ∷ p.words (each_behind w (words_of ps) ws)))
      (sym (append_assoc (bytes ++ p.bytes) (text.each_behind bytes (bytes_of ps)) rest ∙ append_assoc bytes p.bytes (text.each_behind bytes (bytes_of ps) ++ rest)))
      (b.shows (p.bytes ++ (text.each_behind bytes (bytes_of ps) ++ rest)) (p.words (each_behind w (words_of ps) ws)) first);
}

pub spells_joined : (bytes : List ℕ) (w : Shown) → Between bytes w → (ps : List Part) → AllByRecursion IsPart ps → Spells (text.joined bytes (bytes_of ps)) (joined w (words_of ps))
spells_joined bytes w b [] all = record { spells = λ rest ws free s. s }
spells_joined bytes w b (p ∷ ps) all = record {
  spells = λ rest ws free s.
      let more = (spells_each bytes w b ps all.1).spells rest ws free s in
      subst (λ (t : List ℕ). Shows t (p.words (each_behind w (words_of ps) ws))) (sym (append_assoc p.bytes (text.each_behind bytes (bytes_of ps)) rest))
      (all.0.spells (text.each_behind bytes (bytes_of ps) ++ rest) (each_behind w (words_of ps) ws) (free_each bytes w b ps rest free) more);
}
