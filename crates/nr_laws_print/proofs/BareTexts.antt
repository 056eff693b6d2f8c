-- The one text of a file doesn't tell of places.
use Rattle.std.proofs.Common.{◌≡◌, ℕ, List, [], ◌∷◌, map, Option, Some, None, refl, sym, ap, subst, ◌∙◌}
use Rattle.std.specs.Fmt.{decimal}
use Rattle.std.specs.Prelude.{codes}
use Rattle.nr_spec_bgp.specs.PrefixText.{address_text, cidr_text}
use Rattle.nr_rule_syntax.specs.Reading.{file_of}
use Rattle.std.specs.List.{All}
use denote.Hole.Holds.{Such}
use Rattle.nr_rule_syntax.specs.declared.tree.Num.{Num}
use Rattle.nr_rule_syntax.specs.declared.tree.RootText.{RootText}
use Rattle.nr_rule_syntax.specs.declared.tree.PatternText.{PatternText}
use Rattle.nr_rule_syntax.specs.declared.tree.PrefixText.{PrefixText}
use Rattle.nr_rule_syntax.specs.declared.tree.File.{File}
use Rattle.nr_rule_syntax.specs.declared.tree.Decl.{Decl}
use Rattle.nr_rule_syntax.specs.declared.tree.Decl.TheVariants as decls
use Rattle.nr_rule_syntax.specs.declared.tree.Term.{Term}
use Rattle.nr_rule_syntax.specs.declared.tree.Term.TheVariants as terms
use Rattle.nr_rule_syntax.specs.declared.tree.Form.{Form}
use Rattle.nr_rule_syntax.specs.declared.tree.Form.TheBlock.{the_family, member-Form}
use Rattle.nr_rule_syntax.specs.declared.tree.Form.TheOpen.{Form-F}
use Rattle.nr_rule_syntax.specs.declared.tree.Form.TheViews.{roll-Form}
use Rattle.nr_rule_syntax.specs.declared.tree.Form.TheFolds.{fold-roll-Form, ind-Form, map-Form, claims}
use Rattle.nr_rule_syntax.specs.declared.tree.Form.TheVariants as forms
use Rattle.nr_rule_syntax.specs.Nesting.{IsNested}
use Rattle.nr_rule_syntax.specs.Written.{IsWritten}
use Rattle.nr_rule_syntax.specs.Printing.{spelled, Printed, printed_step, printed, comparison_text, term_text, key_text, most_text, pattern_text, name_text, prefix_text, places_text, each_behind, joined, head_text, declaration_text, file_text}
use Rattle.nr_laws_print.specs.Bare.{bare_step, bare_form, bare_name, bare_term, bare_key, bare_most, bare_pattern, bare_prefix, bare_declaration, bare, SameButSpans}
use Rattle.nr_laws_print.proofs.Back.{written_is_read_back}

bare_term_text : (t : Term) → term_text (bare_term t) ≡ term_text t
bare_term_text (terms.Number n) = refl
bare_term_text terms.Bits = refl
bare_term_text (terms.Length of) = refl
bare_term_text (terms.Med of) = refl
bare_term_text (terms.Pref of) = refl
bare_term_text (terms.Origin of) = refl
bare_term_text (terms.First of) = refl
bare_term_text (terms.Last of) = refl
bare_term_text (terms.Hop of) = refl
bare_term_text (terms.Asn of) = refl

-- ---- formulas

rolled : (x : Form-F Form) (form : Form) → roll-Form x ≡ form → printed form ≡ printed_step (map-Form Form Printed printed x)
rolled x form e = ap printed (sym e) ∙ fold-roll-Form Printed printed_step x

abbrev Holds : Form → Type 0
Holds form = printed (bare_form form) ≡ printed form

abbrev Held : Type 0
Held = (form : Form) × Holds form

abbrev Layer : Form-F Form → Type 0
Layer x = printed (bare_step (map-Form Form Form bare_form x)) ≡ printed_step (map-Form Form Printed printed x)

each_same : (xs : List Held) → map printed (map bare_form (map (λ e. e.0) xs)) ≡ map printed (map (λ e. e.0) xs)
each_same [] = refl
each_same (x ∷ xs) = ap (λ (p : Printed). p ∷ map printed (map bare_form (map (λ (e : Held). e.0) xs))) x.1 ∙ ap (λ (ps : List Printed). printed x.0 ∷ ps) (each_same xs)

layer_of : (y : Form-F (Such the_family (claims Holds) member-Form)) → Layer (map-Form _ Form (λ e. e.0) y)
layer_of Form-F.True = rolled Form-F.True forms.True forms.rolls-True
layer_of Form-F.False = rolled Form-F.False forms.False forms.rolls-False
layer_of (Form-F.Not held) = rolled (Form-F.Not (bare_form held.0)) _ (forms.rolls-Not (bare_form held.0)) ∙ ap (λ (p : Printed). printed_step (Form-F.Not p)) held.1
layer_of (Form-F.And members) = rolled (Form-F.And (map bare_form (map (λ (e : Held). e.0) members))) _ (forms.rolls-And (map bare_form (map (λ (e : Held). e.0) members))) ∙ ap (λ (ps : List Printed). printed_step (Form-F.And ps)) (each_same members)
layer_of (Form-F.Or members) = rolled (Form-F.Or (map bare_form (map (λ (e : Held). e.0) members))) _ (forms.rolls-Or (map bare_form (map (λ (e : Held). e.0) members))) ∙ ap (λ (ps : List Printed). printed_step (Form-F.Or ps)) (each_same members)
layer_of (Form-F.Implies left right) = rolled (Form-F.Implies (bare_form left.0) (bare_form right.0)) _ (forms.rolls-Implies (bare_form left.0) (bare_form right.0))
    ∙ ap (λ (p : Printed). printed_step (Form-F.Implies p (printed (bare_form right.0)))) left.1 ∙ ap (λ (p : Printed). printed_step (Form-F.Implies (printed left.0) p)) right.1
layer_of (Form-F.All var group held) = rolled (Form-F.All (bare_name var) (bare_name group) (bare_form held.0)) _ (forms.rolls-All (bare_name var) (bare_name group) (bare_form held.0)) ∙ ap (λ (p : Printed). printed_step (Form-F.All var group p)) held.1
layer_of (Form-F.Some var group held) = rolled (Form-F.Some (bare_name var) (bare_name group) (bare_form held.0)) _ (forms.rolls-Some (bare_name var) (bare_name group) (bare_form held.0)) ∙ ap (λ (p : Printed). printed_step (Form-F.Some var group p)) held.1
layer_of (Form-F.If var side of then_ else_) = rolled (Form-F.If (bare_name var) side (bare_name of) (bare_form then_.0) (bare_form else_.0)) _ (forms.rolls-If (bare_name var) side (bare_name of) (bare_form then_.0) (bare_form else_.0))
    ∙ ap (λ (p : Printed). printed_step (Form-F.If var side of p (printed (bare_form else_.0)))) then_.1 ∙ ap (λ (p : Printed). printed_step (Form-F.If var side of (printed then_.0) p)) else_.1
layer_of (Form-F.Stands side of) = rolled (Form-F.Stands side (bare_name of)) _ (forms.rolls-Stands side (bare_name of))
layer_of (Form-F.Has var community) = rolled (Form-F.Has (bare_name var) community) _ (forms.rolls-Has (bare_name var) community)
layer_of (Form-F.Crosses var term) = rolled (Form-F.Crosses (bare_name var) (bare_term term)) _ (forms.rolls-Crosses (bare_name var) (bare_term term))
    ∙ ap (λ (t : List ℕ). let p : Printed = record { binds = 3; text = spelled (spelled (var.word ∷ codes " crosses " ∷ t ∷ []) ∷ []) } in p) (bare_term_text term)
layer_of (Form-F.Is left right) = rolled (Form-F.Is (bare_name left) (bare_name right)) _ (forms.rolls-Is (bare_name left) (bare_name right))
layer_of (Form-F.PrefixIn set) = rolled (Form-F.PrefixIn (bare_name set)) _ (forms.rolls-PrefixIn (bare_name set))
layer_of (Form-F.Compare left op right) = rolled (Form-F.Compare (bare_term left) op (bare_term right)) _ (forms.rolls-Compare (bare_term left) op (bare_term right))
    ∙ ap (λ (t : List ℕ). let p : Printed = record { binds = 3; text = spelled (spelled (t ∷ codes " " ∷ comparison_text op ∷ codes " " ∷ term_text (bare_term right) ∷ []) ∷ []) } in p) (bare_term_text left)
    ∙ ap (λ (t : List ℕ). let p : Printed = record { binds = 3; text = spelled (spelled (term_text left ∷ codes " " ∷ comparison_text op ∷ codes " " ∷ t ∷ []) ∷ []) } in p) (bare_term_text right)

from_layer : (x : Form-F Form) → Layer x → Holds (roll-Form x)
from_layer x layer = ap printed (fold-roll-Form Form bare_step x) ∙ layer ∙ sym (fold-roll-Form Printed printed_step x)

pub bare_form_printed : (form : Form) → Holds form
bare_form_printed = ind-Form Holds (λ x y is. subst (λ (z : Form-F Form). Holds (roll-Form z)) is (from_layer _ (layer_of y)))

-- ---- declarations and files

map_same : {A B : Type 0} (f : A → A) (g : A → B) → ((x : A) → g (f x) ≡ g x) → (xs : List A) → map g (map f xs) ≡ map g xs
map_same f g h [] = refl
map_same {B = B} f g h (x ∷ xs) = ap (λ (y : B). y ∷ map g (map f xs)) (h x) ∙ ap (λ (ys : List B). g x ∷ ys) (map_same f g h xs)

bare_key_text : (signs : Option (RootText × Num)) → key_text (bare_key signs) ≡ key_text signs
bare_key_text None = refl
bare_key_text (Some (root, number)) = refl

bare_most_text : (most : Option Num) → most_text (bare_most most) ≡ most_text most
bare_most_text None = refl
bare_most_text (Some n) = refl

bare_pattern_text : (p : PatternText) → pattern_text (bare_pattern p) ≡ pattern_text p
bare_pattern_text p = ap (λ (t : List ℕ). spelled (cidr_text p.prefix ∷ t ∷ [])) (bare_most_text p.most)

bare_places_text : (at : List PrefixText) → places_text (map bare_prefix at) ≡ places_text at
bare_places_text [] = refl
bare_places_text (p ∷ ps) = ap (λ (ts : List (List ℕ)). spelled (codes " at " ∷ prefix_text p ∷ each_behind (codes ", ") ts ∷ [])) (map_same bare_prefix prefix_text (λ x. refl) ps)

bare_declaration_text : (d : Decl) → declaration_text (bare_declaration d) ≡ declaration_text d
bare_declaration_text (decls.Network value span) = refl
bare_declaration_text (decls.Commit value span) = refl
bare_declaration_text (decls.Neighbour name asn addr signs) =
    ap (λ (t : List ℕ). spelled (head_text (codes "neighbour ") name (codes " as ") ∷ decimal asn.value ∷ codes " at " ∷ address_text addr.value ∷ t ∷ codes ";\n" ∷ [])) (bare_key_text signs)
bare_declaration_text (decls.Group name members) =
    ap (λ (ts : List (List ℕ)). spelled (head_text (codes "group ") name (codes " = ") ∷ joined (codes ", ") ts ∷ codes ";\n" ∷ [])) (map_same bare_name name_text (λ x. refl) members)
bare_declaration_text (decls.Define name patterns) =
    ap (λ (ts : List (List ℕ)). spelled (head_text (codes "define ") name (codes " = ") ∷ joined (codes ", ") ts ∷ codes ";\n" ∷ [])) (map_same bare_pattern pattern_text bare_pattern_text patterns)
bare_declaration_text (decls.Promise name grace at form) =
    ap (λ (t : List ℕ). spelled (head_text (codes "promise ") name (codes " grace ") ∷ decimal grace.value ∷ t ∷ codes " { " ∷ (printed (bare_form form)).text ∷ codes " }\n" ∷ [])) (bare_places_text at)
    ∙ ap (λ (p : Printed). spelled (head_text (codes "promise ") name (codes " grace ") ∷ decimal grace.value ∷ places_text at ∷ codes " { " ∷ p.text ∷ codes " }\n" ∷ [])) (bare_form_printed form)

bare_text : (file : File) → file_text (bare file) ≡ file_text file
bare_text file = ap spelled (map_same bare_declaration declaration_text bare_declaration_text file.decls)

-- two files that say the same have one text
pub same_text : (a b : File) → SameButSpans a b → file_text a ≡ file_text b
same_text a b same = sym (bare_text a) ∙ ap file_text same ∙ bare_text b

-- and two files with one text say the same
pub same_file : (a b : File) → All IsWritten a.decls → All IsNested a.decls → All IsWritten b.decls → All IsNested b.decls → file_text a ≡ file_text b → SameButSpans a b
same_file a b wa na wb nb e =
    let x = written_is_read_back a wa na in
    let y = written_is_read_back b wb nb in
    let one : x.again ≡ y.again = cc (x.reads, y.reads, ap file_of e) in
    sym x.same ∙ ap bare one ∙ y.same
