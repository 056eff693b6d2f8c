-- Declarations and files stay where their tokens are.
use Rattle.std.proofs.Common.{◌≡◌, ℕ, List, [], map, length, Option, Some, None, refl, ap}
use Rattle.nr_spec_rules.specs.declared.kind.Kind.{Kind}
use Rattle.nr_spec_rules.specs.declared.kind.Kind.TheVariants as k
use Rattle.nr_spec_rules.specs.declared.span.Span.{Span}
use Rattle.nr_spec_rules.specs.Tokens.{Token}
use Rattle.nr_spec_rules.specs.Parsing.{sees, until}
use Rattle.nr_rule_syntax.specs.declared.tree.Name.{Name}
use Rattle.nr_rule_syntax.specs.declared.tree.Num.{Num}
use Rattle.nr_rule_syntax.specs.declared.tree.RootText.{RootText}
use Rattle.nr_rule_syntax.specs.declared.tree.PatternText.{PatternText}
use Rattle.nr_rule_syntax.specs.declared.tree.PrefixText.{PrefixText}
use Rattle.nr_rule_syntax.specs.declared.tree.Form.{Form}
use Rattle.nr_rule_syntax.specs.declared.tree.Decl.{Decl}
use Rattle.nr_rule_syntax.specs.declared.tree.Decl.TheVariants as decls
use Rattle.nr_rule_syntax.specs.declared.formula.Level.TheVariants.{Whole}
use Rattle.nr_rule_syntax.specs.Reading as spec
use Rattle.nr_laws_typing.specs.Moved.{Move, moved_span, moved_name, moved_number, moved_form, moved_key, moved_pattern, moved_prefix, moved_declaration}
use Rattle.nr_laws_places.proofs.Keeps.{Stays, Keeps, then_keeps, pure_keeps, map_keeps, refuse_keeps, behind_keeps, if_keeps, kind_keeps, expect_keeps, list_keeps, until_keeps}
use Rattle.nr_laws_places.proofs.Parts.{name_keeps, number_keeps, address_keeps, prefix_keeps, moved_root, root_keeps}
use Rattle.nr_laws_places.proofs.Forms.{inside_keeps}

abbrev moved_numbered : Move → Num × Span → Num × Span
moved_numbered to x = (moved_number to x.0, moved_span to x.1)

numbered_keeps : {most : ℕ} {to : Move} → Stays most to → (kind : Kind) → Keeps most (moved_numbered to) (spec.numbered kind)
unfolding spec.numbered
numbered_keeps s kind =
    then_keeps (expect_keeps s kind) (λ span at. then_keeps (number_keeps s) (λ value v. then_keeps (expect_keeps s k.Semicolon) (λ _ _. pure_keeps (rw (at, v) refl))))

key_keeps : {most : ℕ} {to : Move} → Stays most to → Keeps most (moved_key to) spec.key
unfolding spec.key
key_keeps {to = to} s =
    if_keeps (sees k.RootWord)
    (behind_keeps _ (then_keeps (root_keeps s) (λ of r. then_keeps (expect_keeps s k.NumberWord) (λ _ _. then_keeps (number_keeps s) (λ number_ n.
    pure_keeps {m = moved_key to} (rw (r, n) refl))))))
    (pure_keeps {m = moved_key to} {x = None} refl)

neighbour_keeps : {most : ℕ} {to : Move} → Stays most to → Keeps most (moved_declaration to) spec.neighbour
unfolding spec.neighbour
neighbour_keeps {to = to} s =
    behind_keeps _ (then_keeps (name_keeps s) (λ called c. then_keeps (expect_keeps s k.As) (λ _ _. then_keeps (number_keeps s) (λ asn n. then_keeps (expect_keeps s k.At) (λ _ _.
    then_keeps (address_keeps s) (λ addr a. then_keeps (key_keeps s) (λ signs g. then_keeps (expect_keeps s k.Semicolon) (λ _ _.
    pure_keeps {m = moved_declaration to} {x = decls.Neighbour called asn addr signs} (rw (c, n, a, g) refl)))))))))

group_keeps : {most : ℕ} {to : Move} → Stays most to → Keeps most (moved_declaration to) spec.group
unfolding spec.group
group_keeps {to = to} s =
    behind_keeps _ (then_keeps (name_keeps s) (λ called c. then_keeps (expect_keeps s k.Equal) (λ _ _. then_keeps (list_keeps k.Comma (name_keeps s)) (λ members m. then_keeps (expect_keeps s k.Semicolon) (λ _ _.
    pure_keeps {m = moved_declaration to} {x = decls.Group called members} (rw (c, m) refl))))))

pattern_keeps : {most : ℕ} {to : Move} → Stays most to → Keeps most (moved_pattern to) spec.pattern
unfolding spec.pattern
pattern_keeps {to = to} s =
    then_keeps (prefix_keeps s) (λ base b.
    let at : moved_span to base.span ≡ base.span = ap (λ (p : PrefixText). p.span) b in
    if_keeps (sees k.Le)
    (behind_keeps _ (map_keeps (λ (most : Num). let p : PatternText = record { prefix = base.prefix; most = Some most; span = base.span } in p) (number_keeps s) (λ most m. rw (at, m) refl)))
    (pure_keeps (rw at refl)))

define_keeps : {most : ℕ} {to : Move} → Stays most to → Keeps most (moved_declaration to) spec.define
unfolding spec.define
define_keeps {to = to} s =
    behind_keeps _ (then_keeps (name_keeps s) (λ called c. then_keeps (expect_keeps s k.Equal) (λ _ _. then_keeps (list_keeps k.Comma (pattern_keeps s)) (λ patterns p. then_keeps (expect_keeps s k.Semicolon) (λ _ _.
    pure_keeps {m = moved_declaration to} {x = decls.Define called patterns} (rw (c, p) refl))))))

places_keep : {most : ℕ} {to : Move} → Stays most to → Keeps most (map (moved_prefix to)) spec.places
unfolding spec.places
places_keep {to = to} s = if_keeps (sees k.At) (behind_keeps _ (list_keeps k.Comma (prefix_keeps s))) (pure_keeps {m = map (moved_prefix to)} {x = []} refl)

abbrev moved_terms : Move → Name × Num × List PrefixText → Name × Num × List PrefixText
moved_terms to x = (moved_name to x.0, moved_number to x.1, map (moved_prefix to) x.2)

terms_keep : {most : ℕ} {to : Move} → Stays most to → Keeps most (moved_terms to) spec.terms_of_promise
unfolding spec.terms_of_promise
terms_keep {to = to} s =
    then_keeps (name_keeps s) (λ called c. then_keeps (expect_keeps s k.Grace) (λ _ _. then_keeps (number_keeps s) (λ grace g. then_keeps (places_keep s) (λ at a.
    pure_keeps {m = moved_terms to} (rw (c, g, a) refl)))))

promise_keeps : {most : ℕ} {to : Move} → Stays most to → Keeps most (moved_declaration to) spec.promise
unfolding spec.promise
promise_keeps {to = to} s =
    behind_keeps _ (then_keeps (terms_keep s) (λ head h. then_keeps (expect_keeps s k.OpenBrace) (λ _ _. then_keeps (inside_keeps s 65 Whole) (λ held f. then_keeps (expect_keeps s k.CloseBrace) (λ _ _.
    let called : moved_name to head.0 ≡ head.0 = ap (λ (y : Name × Num × List PrefixText). y.0) h in
    let grace : moved_number to head.1 ≡ head.1 = ap (λ (y : Name × Num × List PrefixText). y.1) h in
    let at : map (moved_prefix to) head.2 ≡ head.2 = ap (λ (y : Name × Num × List PrefixText). y.2) h in
    pure_keeps {m = moved_declaration to} {x = decls.Promise head.0 head.1 head.2 held} (rw (called, grace, at, f) refl))))))

declaration_by_keeps : {most : ℕ} {to : Move} → Stays most to → (kind : Kind) → Keeps most (moved_declaration to) (spec.declaration_by kind)
declaration_by_keeps s k.Network = map_keeps (λ (x : Num × Span). decls.Network x.0 x.1) (numbered_keeps s k.Network) (λ x e. ap (λ (y : Num × Span). decls.Network y.0 y.1) e)
declaration_by_keeps s k.Commit = map_keeps (λ (x : Num × Span). decls.Commit x.0 x.1) (numbered_keeps s k.Commit) (λ x e. ap (λ (y : Num × Span). decls.Commit y.0 y.1) e)
declaration_by_keeps s k.Neighbour = neighbour_keeps s
declaration_by_keeps s k.Group = group_keeps s
declaration_by_keeps s k.Define = define_keeps s
declaration_by_keeps s k.Promise = promise_keeps s
declaration_by_keeps s _ = refuse_keeps

declaration_keeps : {most : ℕ} {to : Move} → Stays most to → Keeps most (moved_declaration to) spec.declaration
unfolding spec.declaration
declaration_keeps s = kind_keeps spec.declaration_by (declaration_by_keeps s)

pub declarations_keep : {most : ℕ} {to : Move} → Stays most to → Keeps most (map (moved_declaration to)) spec.declarations
declarations_keep s = record { keeps = λ ts i. (until_keeps k.End (declaration_keeps s) (length ts)).keeps ts i }
