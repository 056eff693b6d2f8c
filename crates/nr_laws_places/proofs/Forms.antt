-- Formulas stay where their tokens are.
use Rattle.std.proofs.Common.{◌≡◌, ℕ, zero, suc, List, map, refl, ap, sym, ◌∙◌}
use Rattle.nr_spec_rules.specs.declared.kind.Kind.{Kind}
use Rattle.nr_spec_rules.specs.declared.kind.Kind.TheVariants as k
use Rattle.nr_spec_rules.specs.Parsing.{pure, sees}
use Rattle.nr_rule_syntax.specs.declared.tree.Name.{Name}
use Rattle.nr_rule_syntax.specs.declared.tree.Side.{Side}
use Rattle.nr_rule_syntax.specs.declared.tree.Cmp.{Cmp}
use Rattle.nr_rule_syntax.specs.declared.tree.Term.{Term}
use Rattle.nr_rule_syntax.specs.declared.tree.Form.{Form}
use Rattle.nr_rule_syntax.specs.declared.tree.Form.TheOpen.{Form-F}
use Rattle.nr_rule_syntax.specs.declared.tree.Form.TheViews.{roll-Form}
use Rattle.nr_rule_syntax.specs.declared.tree.Form.TheFolds.{fold-roll-Form, map-Form}
use Rattle.nr_rule_syntax.specs.declared.tree.Form.TheVariants as forms
use Rattle.nr_rule_syntax.specs.declared.formula.Level.{Level}
use Rattle.nr_rule_syntax.specs.declared.formula.Level.TheVariants.{Whole, Member}
use Rattle.nr_rule_syntax.specs.Reading as spec
use Rattle.nr_laws_typing.specs.Moved.{Move, moved_name, moved_term, moved_step, moved_form}
use Rattle.nr_laws_places.proofs.Keeps.{Stays, Keeps, same, then_keeps, pure_keeps, map_keeps, refuse_keeps, behind_keeps, if_keeps, kind_keeps, expect_keeps, chain_keeps}
use Rattle.nr_laws_places.proofs.Parts.{name_keeps, community_keeps, term_keeps, comparison_keeps, moved_route, route_keeps}

-- a layer whose parts stay
layer : (to : Move) (x : Form-F Form) (form : Form) → roll-Form x ≡ form → moved_step to (map-Form Form Form (moved_form to) x) ≡ form → moved_form to form ≡ form
layer to x form e h = ap (moved_form to) (sym e) ∙ fold-roll-Form Form (moved_step to) x ∙ h

compared_keeps : {most : ℕ} {to : Move} → Stays most to → Keeps most (moved_form to) spec.compared
unfolding spec.compared
compared_keeps {to = to} s =
    then_keeps (term_keeps s) (λ left l. then_keeps comparison_keeps (λ op _. then_keeps (term_keeps s) (λ right r.
    pure_keeps (layer to (Form-F.Compare left op right) (forms.Compare left op right) (forms.rolls-Compare left op right) (rw (l, r) refl)))))

-- ---- what holds no formula

about_by_keeps : {most : ℕ} {to : Move} → Stays most to → (var : Name) → moved_name to var ≡ var → (kind : Kind) → Keeps most (moved_form to) (spec.about_by var kind)
about_by_keeps {to = to} s var v k.Has =
    behind_keeps _ (map_keeps (forms.Has var) (community_keeps s) (λ c e. layer to (Form-F.Has var c) (forms.Has var c) (forms.rolls-Has var c) (rw v refl)))
about_by_keeps {to = to} s var v k.Crosses =
    behind_keeps _ (map_keeps (forms.Crosses var) (term_keeps s) (λ t e. layer to (Form-F.Crosses var t) (forms.Crosses var t) (forms.rolls-Crosses var t) (rw (v, e) refl)))
about_by_keeps {to = to} s var v k.Is =
    behind_keeps _ (map_keeps (forms.Is var) (name_keeps s) (λ n e. layer to (Form-F.Is var n) (forms.Is var n) (forms.rolls-Is var n) (rw (v, e) refl)))
about_by_keeps s var v _ = refuse_keeps

about_keeps : {most : ℕ} {to : Move} → Stays most to → (var : Name) → moved_name to var ≡ var → Keeps most (moved_form to) (spec.about var)
unfolding spec.about
about_keeps s var v = kind_keeps (spec.about_by var) (about_by_keeps s var v)

in_set_keeps : {most : ℕ} {to : Move} → Stays most to → Keeps most (moved_form to) spec.in_set
unfolding spec.in_set
in_set_keeps {to = to} s =
    then_keeps (expect_keeps s k.PrefixWord) (λ _ _. then_keeps (expect_keeps s k.In) (λ _ _. then_keeps (name_keeps s) (λ set e.
    pure_keeps (layer to (Form-F.PrefixIn set) (forms.PrefixIn set) (forms.rolls-PrefixIn set) (rw e refl)))))

stands_stay : (to : Move) (x : Side × Name) → moved_route to x ≡ x → moved_form to (forms.Stands x.0 x.1) ≡ forms.Stands x.0 x.1
stands_stay to x e =
    let of : moved_name to x.1 ≡ x.1 = ap (λ (y : Side × Name). y.1) e in
    layer to (Form-F.Stands x.0 x.1) (forms.Stands x.0 x.1) (forms.rolls-Stands x.0 x.1) (rw of refl)

-- ---- what holds formulas

abbrev InsideKeeps : ℕ → Move → spec.Inside → Type 0
InsideKeeps most to inside = (level : Level) → Keeps most (moved_form to) (inside level)

opens_keeps : {most : ℕ} (levels : ℕ) → Keeps most same (spec.opens levels)
opens_keeps zero = refuse_keeps
opens_keeps (suc levels) = behind_keeps (pure tt) (pure_keeps refl)

parenthesized_keeps : {most : ℕ} {to : Move} → Stays most to → (levels : ℕ) (inside : spec.Inside) → InsideKeeps most to inside → Keeps most (moved_form to) (spec.parenthesized levels inside)
unfolding spec.parenthesized
parenthesized_keeps s levels inside i =
    then_keeps (opens_keeps levels) (λ _ _. then_keeps (i Whole) (λ held e. then_keeps (expect_keeps s k.CloseParen) (λ _ _. pure_keeps e)))

abbrev moved_group : Move → Name × Name × Form → Name × Name × Form
moved_group to x = (moved_name to x.0, moved_name to x.1, moved_form to x.2)

over_keeps : {most : ℕ} {to : Move} → Stays most to → (levels : ℕ) (inside : spec.Inside) → InsideKeeps most to inside → Keeps most (moved_group to) (spec.over_group levels inside)
unfolding spec.over_group
over_keeps s levels inside i =
    then_keeps (opens_keeps levels) (λ _ _. then_keeps (name_keeps s) (λ var v. then_keeps (expect_keeps s k.In) (λ _ _. then_keeps (name_keeps s) (λ group g.
    then_keeps (expect_keeps s k.OpenBrace) (λ _ _. then_keeps (i Whole) (λ held h. then_keeps (expect_keeps s k.CloseBrace) (λ _ _. pure_keeps (rw (v, g, h) refl))))))))

abbrev moved_bound : Move → Name × (Side × Name) → Name × (Side × Name)
moved_bound to x = (moved_name to x.0, moved_route to x.1)

bound_keeps : {most : ℕ} {to : Move} → Stays most to → (levels : ℕ) → Keeps most (moved_bound to) (spec.bound levels)
unfolding spec.bound
bound_keeps s levels =
    then_keeps (opens_keeps levels) (λ _ _. then_keeps (name_keeps s) (λ var v. then_keeps (expect_keeps s k.Equal) (λ _ _. then_keeps (route_keeps s) (λ from f.
    then_keeps (expect_keeps s k.Then) (λ _ _. pure_keeps (rw (v, f) refl))))))

abbrev moved_both : Move → Form × Form → Form × Form
moved_both to x = (moved_form to x.0, moved_form to x.1)

branches_keep : {most : ℕ} {to : Move} → Stays most to → (inside : spec.Inside) → InsideKeeps most to inside → Keeps most (moved_both to) (spec.branches inside)
unfolding spec.branches
branches_keep s inside i =
    then_keeps (i Whole) (λ yes_ y. then_keeps (expect_keeps s k.Else) (λ _ _. then_keeps (i Whole) (λ no_ n. then_keeps (expect_keeps s k.EndWord) (λ _ _. pure_keeps (rw (y, n) refl)))))

conditional_keeps : {most : ℕ} {to : Move} → Stays most to → (levels : ℕ) (inside : spec.Inside) → InsideKeeps most to inside → Keeps most (moved_form to) (spec.conditional levels inside)
unfolding spec.conditional
conditional_keeps {to = to} s levels inside i =
    then_keeps (bound_keeps s levels) (λ head h. then_keeps (branches_keep s inside i) (λ parts p.
    let var : moved_name to head.0 ≡ head.0 = ap (λ (y : Name × (Side × Name)). y.0) h in
    let of : moved_name to head.1.1 ≡ head.1.1 = ap (λ (y : Name × (Side × Name)). y.1.1) h in
    let yes_ : moved_form to parts.0 ≡ parts.0 = ap (λ (y : Form × Form). y.0) p in
    let no_ : moved_form to parts.1 ≡ parts.1 = ap (λ (y : Form × Form). y.1) p in
    pure_keeps (layer to (Form-F.If head.0 head.1.0 head.1.1 parts.0 parts.1) (forms.If head.0 head.1.0 head.1.1 parts.0 parts.1)
    (forms.rolls-If head.0 head.1.0 head.1.1 parts.0 parts.1) (rw (var, of, yes_, no_) refl))))

all_stays : (to : Move) (x : Name × Name × Form) → moved_group to x ≡ x → moved_form to (forms.All x.0 x.1 x.2) ≡ forms.All x.0 x.1 x.2
all_stays to x e =
    let var : moved_name to x.0 ≡ x.0 = ap (λ (y : Name × Name × Form). y.0) e in
    let group : moved_name to x.1 ≡ x.1 = ap (λ (y : Name × Name × Form). y.1) e in
    let held : moved_form to x.2 ≡ x.2 = ap (λ (y : Name × Name × Form). y.2) e in
    layer to (Form-F.All x.0 x.1 x.2) (forms.All x.0 x.1 x.2) (forms.rolls-All x.0 x.1 x.2) (rw (var, group, held) refl)

some_stays : (to : Move) (x : Name × Name × Form) → moved_group to x ≡ x → moved_form to (forms.Some x.0 x.1 x.2) ≡ forms.Some x.0 x.1 x.2
some_stays to x e =
    let var : moved_name to x.0 ≡ x.0 = ap (λ (y : Name × Name × Form). y.0) e in
    let group : moved_name to x.1 ≡ x.1 = ap (λ (y : Name × Name × Form). y.1) e in
    let held : moved_form to x.2 ≡ x.2 = ap (λ (y : Name × Name × Form). y.2) e in
    layer to (Form-F.Some x.0 x.1 x.2) (forms.Some x.0 x.1 x.2) (forms.rolls-Some x.0 x.1 x.2) (rw (var, group, held) refl)

atom_by_keeps : {most : ℕ} {to : Move} → Stays most to → (levels : ℕ) (inside : spec.Inside) → InsideKeeps most to inside → (kind : Kind) → Keeps most (moved_form to) (spec.atom_by levels inside kind)
atom_by_keeps {to = to} s levels inside i k.True = behind_keeps (pure forms.True) (pure_keeps (layer to Form-F.True forms.True forms.rolls-True refl))
atom_by_keeps {to = to} s levels inside i k.False = behind_keeps (pure forms.False) (pure_keeps (layer to Form-F.False forms.False forms.rolls-False refl))
atom_by_keeps s levels inside i k.OpenParen = parenthesized_keeps s levels inside i
atom_by_keeps {to = to} s levels inside i k.All = map_keeps (λ (x : Name × Name × Form). forms.All x.0 x.1 x.2) (over_keeps s levels inside i) (all_stays to)
atom_by_keeps {to = to} s levels inside i k.Some = map_keeps (λ (x : Name × Name × Form). forms.Some x.0 x.1 x.2) (over_keeps s levels inside i) (some_stays to)
atom_by_keeps s levels inside i k.If = conditional_keeps s levels inside i
atom_by_keeps {to = to} s levels inside i k.Sent = map_keeps (λ (from : Side × Name). forms.Stands from.0 from.1) (route_keeps s) (stands_stay to)
atom_by_keeps {to = to} s levels inside i k.Received = map_keeps (λ (from : Side × Name). forms.Stands from.0 from.1) (route_keeps s) (stands_stay to)
atom_by_keeps s levels inside i k.Name = then_keeps (name_keeps s) (λ var v. about_keeps s var v)
atom_by_keeps s levels inside i k.PrefixWord = in_set_keeps s
atom_by_keeps s levels inside i _ = compared_keeps s

atom_keeps : {most : ℕ} {to : Move} → Stays most to → (levels : ℕ) (inside : spec.Inside) → InsideKeeps most to inside → Keeps most (moved_form to) (spec.atom levels inside)
unfolding spec.atom
atom_keeps s levels inside i = kind_keeps (spec.atom_by levels inside) (atom_by_keeps s levels inside i)

negation_keeps : {most : ℕ} {to : Move} → Stays most to → (levels : ℕ) (inside : spec.Inside) → InsideKeeps most to inside → Keeps most (moved_form to) (spec.negation levels inside)
unfolding spec.negation
negation_keeps {to = to} s levels inside i =
    if_keeps (sees k.Not)
    (then_keeps (opens_keeps levels) (λ _ _. map_keeps (λ (x : Form). forms.Not x) (i Member) (λ held e. layer to (Form-F.Not held) (forms.Not held) (forms.rolls-Not held) (ap (λ (x : Form). forms.Not x) e))))
    (atom_keeps s levels inside i)

conjunction_keeps : {most : ℕ} {to : Move} → Stays most to → (levels : ℕ) (inside : spec.Inside) → InsideKeeps most to inside → Keeps most (moved_form to) (spec.conjunction levels inside)
unfolding spec.conjunction
conjunction_keeps {to = to} s levels inside i =
    chain_keeps k.And (negation_keeps s levels inside i) (λ xs e. layer to (Form-F.And xs) (forms.And xs) (forms.rolls-And xs) (ap (λ (ys : List Form). forms.And ys) e))

disjunction_keeps : {most : ℕ} {to : Move} → Stays most to → (levels : ℕ) (inside : spec.Inside) → InsideKeeps most to inside → Keeps most (moved_form to) (spec.disjunction levels inside)
unfolding spec.disjunction
disjunction_keeps {to = to} s levels inside i =
    chain_keeps k.Or (conjunction_keeps s levels inside i) (λ xs e. layer to (Form-F.Or xs) (forms.Or xs) (forms.rolls-Or xs) (ap (λ (ys : List Form). forms.Or ys) e))

formula_keeps : {most : ℕ} {to : Move} → Stays most to → (levels : ℕ) (inside : spec.Inside) → InsideKeeps most to inside → Keeps most (moved_form to) (spec.formula levels inside)
unfolding spec.formula
formula_keeps {to = to} s levels inside i =
    then_keeps (disjunction_keeps s levels inside i) (λ left l.
    if_keeps (sees k.Implies)
    (then_keeps (opens_keeps levels) (λ _ _. map_keeps (λ (right : Form). forms.Implies left right) (i Whole) (λ right r.
    layer to (Form-F.Implies left right) (forms.Implies left right) (forms.rolls-Implies left right) (rw (l, r) refl))))
    (pure_keeps l))

pub inside_keeps : {most : ℕ} {to : Move} → Stays most to → (levels : ℕ) → InsideKeeps most to (spec.inside levels)
unfolding spec.inside
inside_keeps s zero level = refuse_keeps
inside_keeps s (suc levels) Whole = formula_keeps s levels (spec.inside levels) (inside_keeps s levels)
inside_keeps s (suc levels) Member = negation_keeps s levels (spec.inside levels) (inside_keeps s levels)
