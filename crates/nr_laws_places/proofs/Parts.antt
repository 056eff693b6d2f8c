-- Names, numbers, terms and routes stay where their tokens are.
use Rattle.std.proofs.Common.{◌≡◌, ℕ, List, Some, refl, ap}
use Rattle.nr_spec_bgp.specs.Prefixes.{masked}
use Rattle.nr_spec_rules.specs.declared.kind.Kind.{Kind}
use Rattle.nr_spec_rules.specs.declared.kind.Kind.TheVariants as k
use Rattle.nr_spec_rules.specs.declared.span.Span.{Span}
use Rattle.nr_spec_rules.specs.Figures.{number_of, address_of, prefix_of, community_of, digest_of}
use Rattle.nr_spec_rules.specs.Parsing.{pure}
use Rattle.nr_rule_syntax.specs.declared.tree.Name.{Name}
use Rattle.nr_rule_syntax.specs.declared.tree.Num.{Num}
use Rattle.nr_rule_syntax.specs.declared.tree.RootText.{RootText}
use Rattle.nr_rule_syntax.specs.declared.tree.PrefixText.{PrefixText}
use Rattle.nr_rule_syntax.specs.declared.tree.Side.{Side}
use Rattle.nr_rule_syntax.specs.declared.tree.Side.TheVariants as sides
use Rattle.nr_rule_syntax.specs.declared.tree.Cmp.TheVariants as cmps
use Rattle.nr_rule_syntax.specs.declared.tree.Term.{Term}
use Rattle.nr_rule_syntax.specs.declared.tree.Term.TheVariants as terms
use Rattle.nr_rule_syntax.specs.Reading as spec
use Rattle.nr_laws_typing.specs.Moved.{Move, moved_span, moved_name, moved_number, moved_term, moved_prefix}
use Rattle.nr_laws_places.proofs.Keeps.{Stays, Keeps, same, beside, then_keeps, pure_keeps, map_keeps, refuse_keeps, behind_keeps, kind_keeps, expect_keeps, valued_keeps}

pub name_keeps : {most : ℕ} {to : Move} → Stays most to → Keeps most (moved_name to) spec.name
unfolding spec.name
name_keeps {to = to} s = map_keeps _ (valued_keeps s k.Name (λ text. Some text)) (λ x e. ap (λ (y : List ℕ × Span). let n : Name = record { word = y.0; span = y.1 } in n) e)

pub number_keeps : {most : ℕ} {to : Move} → Stays most to → Keeps most (moved_number to) spec.number
unfolding spec.number
number_keeps s = map_keeps _ (valued_keeps s k.Number number_of) (λ x e. ap (λ (y : ℕ × Span). let n : Num = record { value = y.0; span = y.1 } in n) e)

pub address_keeps : {most : ℕ} {to : Move} → Stays most to → Keeps most (moved_number to) spec.address
unfolding spec.address
address_keeps s = map_keeps _ (valued_keeps s k.Address address_of) (λ x e. ap (λ (y : ℕ × Span). let n : Num = record { value = y.0; span = y.1 } in n) e)

pub community_keeps : {most : ℕ} {to : Move} → Stays most to → Keeps most (same {A = ℕ}) spec.community
unfolding spec.community
community_keeps s = map_keeps _ (valued_keeps s k.Community community_of) (λ x e. refl)

pub prefix_keeps : {most : ℕ} {to : Move} → Stays most to → Keeps most (moved_prefix to) spec.prefix
unfolding spec.prefix
prefix_keeps s = map_keeps _ (valued_keeps s k.Prefix prefix_of) (λ x e. ap (λ (y : (ℕ × ℕ) × Span). let p : PrefixText = record { prefix = masked y.0.0 y.0.1; span = y.1 } in p) e)

abbrev pub moved_root : Move → RootText → RootText
moved_root to r = record { digest = r.digest; span = moved_span to r.span }

pub root_keeps : {most : ℕ} {to : Move} → Stays most to → Keeps most (moved_root to) spec.root
unfolding spec.root
root_keeps s = map_keeps _ (valued_keeps s k.Root digest_of) (λ x e. ap (λ (y : List ℕ × Span). let r : RootText = record { digest = record { 0 = y.0 }; span = y.1 } in r) e)

pub argument_keeps : {most : ℕ} {to : Move} → Stays most to → Keeps most (moved_name to) spec.argument
unfolding spec.argument
argument_keeps s = then_keeps (expect_keeps s k.OpenParen) (λ _ _. then_keeps (name_keeps s) (λ of e. then_keeps (expect_keeps s k.CloseParen) (λ _ _. pure_keeps e)))

-- ---- terms and comparisons

term_by_keeps : {most : ℕ} {to : Move} → Stays most to → (kind : Kind) → Keeps most (moved_term to) (spec.term_by kind)
term_by_keeps s k.Number = map_keeps terms.Number (number_keeps s) (λ n e. ap terms.Number e)
term_by_keeps s k.Address = map_keeps terms.Number (address_keeps s) (λ n e. ap terms.Number e)
term_by_keeps s k.Bits = behind_keeps (pure terms.Bits) (pure_keeps refl)
term_by_keeps s k.Length = behind_keeps _ (map_keeps terms.Length (argument_keeps s) (λ n e. ap terms.Length e))
term_by_keeps s k.Med = behind_keeps _ (map_keeps terms.Med (argument_keeps s) (λ n e. ap terms.Med e))
term_by_keeps s k.Pref = behind_keeps _ (map_keeps terms.Pref (argument_keeps s) (λ n e. ap terms.Pref e))
term_by_keeps s k.Origin = behind_keeps _ (map_keeps terms.Origin (argument_keeps s) (λ n e. ap terms.Origin e))
term_by_keeps s k.First = behind_keeps _ (map_keeps terms.First (argument_keeps s) (λ n e. ap terms.First e))
term_by_keeps s k.Last = behind_keeps _ (map_keeps terms.Last (argument_keeps s) (λ n e. ap terms.Last e))
term_by_keeps s k.Hop = behind_keeps _ (map_keeps terms.Hop (argument_keeps s) (λ n e. ap terms.Hop e))
term_by_keeps s k.Asn = behind_keeps _ (map_keeps terms.Asn (argument_keeps s) (λ n e. ap terms.Asn e))
term_by_keeps s _ = refuse_keeps

pub term_keeps : {most : ℕ} {to : Move} → Stays most to → Keeps most (moved_term to) spec.term
unfolding spec.term
term_keeps s = kind_keeps spec.term_by (term_by_keeps s)

comparison_by_keeps : {most : ℕ} (kind : Kind) → Keeps most same (spec.comparison_by kind)
comparison_by_keeps k.Equal = behind_keeps (pure cmps.Eq) (pure_keeps refl)
comparison_by_keeps k.Unequal = behind_keeps (pure cmps.Ne) (pure_keeps refl)
comparison_by_keeps k.Less = behind_keeps (pure cmps.Lt) (pure_keeps refl)
comparison_by_keeps k.LessOrEqual = behind_keeps (pure cmps.Le) (pure_keeps refl)
comparison_by_keeps k.Greater = behind_keeps (pure cmps.Gt) (pure_keeps refl)
comparison_by_keeps k.GreaterOrEqual = behind_keeps (pure cmps.Ge) (pure_keeps refl)
comparison_by_keeps _ = refuse_keeps

pub comparison_keeps : {most : ℕ} → Keeps most same spec.comparison
unfolding spec.comparison
comparison_keeps = kind_keeps spec.comparison_by comparison_by_keeps

-- ---- routes

abbrev pub moved_route : Move → Side × Name → Side × Name
moved_route to x = (x.0, moved_name to x.1)

route_by_keeps : {most : ℕ} {to : Move} → Stays most to → (kind : Kind) → Keeps most (moved_route to) (spec.route_by kind)
route_by_keeps s k.Sent = behind_keeps _ (map_keeps (λ of. (sides.Sent, of)) (argument_keeps s) (λ n e. ap (λ (of : Name). (sides.Sent, of)) e))
route_by_keeps s k.Received = behind_keeps _ (map_keeps (λ of. (sides.Received, of)) (argument_keeps s) (λ n e. ap (λ (of : Name). (sides.Received, of)) e))
route_by_keeps s _ = refuse_keeps

pub route_keeps : {most : ℕ} {to : Move} → Stays most to → Keeps most (moved_route to) spec.route
unfolding spec.route
route_keeps s = kind_keeps spec.route_by (route_by_keeps s)
