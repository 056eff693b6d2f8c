-- Words of names, numbers and terms are read as what they are.
use Rattle.std.proofs.Common.{◌≡◌, ℕ, true, List, ◌∷◌, Some, refl, ap}
use Rattle.std.specs.Fmt.{decimal}
use Rattle.nr_spec_rules.specs.declared.kind.Kind.{Kind}
use Rattle.nr_spec_rules.specs.declared.kind.Kind.TheVariants as k
use Rattle.nr_spec_rules.specs.Figures.{number_of, community_of}
use Rattle.nr_spec_rules.specs.Tokens.{kind_of}
use Rattle.nr_spec_rules.specs.Parsing.{Parser, pure}
use Rattle.nr_rule_syntax.specs.declared.tree.Name.{Name}
use Rattle.nr_rule_syntax.specs.declared.tree.Num.{Num}
use Rattle.nr_rule_syntax.specs.declared.tree.Side.{Side}
use Rattle.nr_rule_syntax.specs.declared.tree.Side.TheVariants as sides
use Rattle.nr_rule_syntax.specs.declared.tree.Term.{Term}
use Rattle.nr_rule_syntax.specs.declared.tree.Term.TheVariants as terms
use Rattle.nr_rule_syntax.specs.declared.tree.Cmp.{Cmp}
use Rattle.nr_rule_syntax.specs.declared.tree.Cmp.TheVariants as cmps
use Rattle.nr_rule_syntax.specs.Printing.{community_text}
use Rattle.nr_rule_syntax.specs.Reading as spec
use Rattle.nr_rule_syntax.specs.Written.{is_term, is_short, IsNumber}
use Rattle.nr_laws_print.specs.Bare.{nowhere, bare_name, bare_number, bare_term}
use Rattle.nr_laws_print.proofs.Words.{Shown, word, open_paren, close_paren, term_words, comparison_word, route_words}
use Rattle.nr_laws_print.proofs.Gives.{Gives, gives_then, gives_pure, gives_map, gives_behind, gives_expect, gives_valued}
use Rattle.nr_laws_print.proofs.Texts.{number_text_read, community_text_read}

pub gives_name : (n : Name) {rest : List Shown} → Gives bare_name (bare_name n) spec.name (word k.Name n.word ∷ rest) rest
unfolding spec.name
gives_name n = gives_map _ (gives_valued (word k.Name n.word) (λ text. Some text) refl) (λ x e. ap (λ (w : List ℕ). let r : Name = record { word = w; span = nowhere } in r) e)

unfoldable pub num_of : ℕ → Num
num_of v = record { value = v; span = nowhere }

pub gives_number : (n : Num) {rest : List Shown} → IsNumber n → Gives bare_number (bare_number n) spec.number (word k.Number (decimal n.value) ∷ rest) rest
unfolding spec.number num_of
gives_number n h = gives_map _ (gives_valued (word k.Number (decimal n.value)) number_of (number_text_read n.value h)) (λ x e. ap num_of e)

pub gives_community : (c : ℕ) {rest : List Shown} → is_short c ≡ true → Gives (λ (x : ℕ). x) c spec.community (word k.Community (community_text c) ∷ rest) rest
unfolding spec.community
gives_community c h = gives_map _ (gives_valued (word k.Community (community_text c)) community_of (community_text_read c h)) (λ x e. e)

pub gives_argument : (n : Name) {rest : List Shown} → Gives bare_name (bare_name n) spec.argument (open_paren ∷ word k.Name n.word ∷ close_paren ∷ rest) rest
unfolding spec.argument
gives_argument n = gives_then (gives_expect open_paren) (λ _ _. gives_then (gives_name n) (λ of e. gives_then (gives_expect close_paren) (λ _ _. gives_pure e)))

-- a parser that looks at the kind of the next token
pub gives_by_kind : {A B : Type 0} {view : A → B} {v : B} (by : Kind → Parser A) (w : Shown) {input rest : List Shown} → Gives view v (by w.kind) (w ∷ input) rest
    → Gives view v (λ ts. by (kind_of ts) ts) (w ∷ input) rest
gives_by_kind by w g = record { run = λ ps. g.run ps }

pub gives_term : (t : Term) {rest : List Shown} → is_term t ≡ true → Gives bare_term (bare_term t) spec.term (term_words t rest) rest
unfolding spec.term
gives_term (terms.Number n) h = gives_by_kind spec.term_by (word k.Number (decimal n.value)) (gives_map terms.Number (gives_number n h) (λ x e. ap terms.Number e))
gives_term terms.Bits h = gives_by_kind spec.term_by (word k.Bits _) (gives_behind (word k.Bits _) (pure terms.Bits) (gives_pure refl))
gives_term (terms.Length of) h = gives_by_kind spec.term_by (word k.Length _) (gives_behind (word k.Length _) _ (gives_map terms.Length (gives_argument of) (λ x e. ap terms.Length e)))
gives_term (terms.Med of) h = gives_by_kind spec.term_by (word k.Med _) (gives_behind (word k.Med _) _ (gives_map terms.Med (gives_argument of) (λ x e. ap terms.Med e)))
gives_term (terms.Pref of) h = gives_by_kind spec.term_by (word k.Pref _) (gives_behind (word k.Pref _) _ (gives_map terms.Pref (gives_argument of) (λ x e. ap terms.Pref e)))
gives_term (terms.Origin of) h = gives_by_kind spec.term_by (word k.Origin _) (gives_behind (word k.Origin _) _ (gives_map terms.Origin (gives_argument of) (λ x e. ap terms.Origin e)))
gives_term (terms.First of) h = gives_by_kind spec.term_by (word k.First _) (gives_behind (word k.First _) _ (gives_map terms.First (gives_argument of) (λ x e. ap terms.First e)))
gives_term (terms.Last of) h = gives_by_kind spec.term_by (word k.Last _) (gives_behind (word k.Last _) _ (gives_map terms.Last (gives_argument of) (λ x e. ap terms.Last e)))
gives_term (terms.Hop of) h = gives_by_kind spec.term_by (word k.Hop _) (gives_behind (word k.Hop _) _ (gives_map terms.Hop (gives_argument of) (λ x e. ap terms.Hop e)))
gives_term (terms.Asn of) h = gives_by_kind spec.term_by (word k.Asn _) (gives_behind (word k.Asn _) _ (gives_map terms.Asn (gives_argument of) (λ x e. ap terms.Asn e)))

pub gives_comparison : (op : Cmp) {rest : List Shown} → Gives (λ (x : Cmp). x) op spec.comparison (comparison_word op ∷ rest) rest
unfolding spec.comparison
gives_comparison cmps.Eq = gives_by_kind spec.comparison_by (word k.Equal _) (gives_behind (word k.Equal _) (pure cmps.Eq) (gives_pure refl))
gives_comparison cmps.Ne = gives_by_kind spec.comparison_by (word k.Unequal _) (gives_behind (word k.Unequal _) (pure cmps.Ne) (gives_pure refl))
gives_comparison cmps.Lt = gives_by_kind spec.comparison_by (word k.Less _) (gives_behind (word k.Less _) (pure cmps.Lt) (gives_pure refl))
gives_comparison cmps.Le = gives_by_kind spec.comparison_by (word k.LessOrEqual _) (gives_behind (word k.LessOrEqual _) (pure cmps.Le) (gives_pure refl))
gives_comparison cmps.Gt = gives_by_kind spec.comparison_by (word k.Greater _) (gives_behind (word k.Greater _) (pure cmps.Gt) (gives_pure refl))
gives_comparison cmps.Ge = gives_by_kind spec.comparison_by (word k.GreaterOrEqual _) (gives_behind (word k.GreaterOrEqual _) (pure cmps.Ge) (gives_pure refl))

-- a side and a name
abbrev pub bare_from : Side × Name → Side × Name
bare_from x = (x.0, bare_name x.1)

from_of : (side : Side) (a b : Name) → a ≡ b → (let x : Side × Name = (side, a) in x) ≡ (side, b)
from_of side a b e = cc e

pub gives_route : (side : Side) (of : Name) {rest : List Shown} → Gives bare_from (side, bare_name of) spec.route (route_words side of rest) rest
unfolding spec.route
gives_route sides.Sent of = gives_by_kind spec.route_by (word k.Sent _) (gives_behind (word k.Sent _) _ (gives_map _ (gives_argument of) (λ x e. from_of sides.Sent (bare_name x) (bare_name of) e)))
gives_route sides.Received of = gives_by_kind spec.route_by (word k.Received _) (gives_behind (word k.Received _) _ (gives_map _ (gives_argument of) (λ x e. from_of sides.Received (bare_name x) (bare_name of) e)))
