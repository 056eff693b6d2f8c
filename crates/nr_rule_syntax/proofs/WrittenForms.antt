-- Formulas that are read are written as they should be, and nest as deep as levels may be opened.
use Rattle.std.proofs.Common.{◌≡◌, ℕ, zero, suc, ◌+◌, ◌<◌, ◌≤◌, max, Bool, true, false, ◌&&◌, leb, List, [], ◌∷◌, length, map, refl, sym, ap, subst, ◌∙◌, arith}
use Rattle.std.specs.List.{AllByRecursion as AllOf, list_all}
use Rattle.std.proofs.lemmas.Bool.{le-leb}
use Rattle.std.proofs.lemmas.List.{length-map}
use Rattle.std.proofs.lemmas.Bool.Decides.{nat_tests}
use Rattle.nr_spec_rules.specs.declared.kind.Kind.{Kind}
use Rattle.nr_spec_rules.specs.declared.kind.Kind.TheVariants as k
use Rattle.nr_spec_rules.specs.Tokens.{kind_of, same_kind}
use Rattle.nr_spec_rules.specs.Parsing.{Parser, pure, sees}
use Rattle.nr_rule_syntax.specs.declared.tree.Name.{Name}
use Rattle.nr_rule_syntax.specs.declared.tree.Side.{Side}
use Rattle.nr_rule_syntax.specs.declared.tree.Side.TheVariants as sides
use Rattle.nr_rule_syntax.specs.declared.tree.Cmp.TheVariants as cmps
use Rattle.nr_rule_syntax.specs.declared.tree.Term.{Term}
use Rattle.nr_rule_syntax.specs.declared.tree.Term.TheVariants as terms
use Rattle.nr_rule_syntax.specs.declared.tree.Form.{Form}
use Rattle.nr_rule_syntax.specs.declared.tree.Form.TheOpen.{Form-F}
use Rattle.nr_rule_syntax.specs.declared.tree.Form.TheViews.{roll-Form}
use Rattle.nr_rule_syntax.specs.declared.tree.Form.TheFolds.{fold-roll-Form, map-Form}
use Rattle.nr_rule_syntax.specs.declared.tree.Form.TheVariants as forms
use Rattle.nr_rule_syntax.specs.declared.formula.Level.{Level}
use Rattle.nr_rule_syntax.specs.declared.formula.Level.TheVariants.{Whole, Member}
use Rattle.nr_rule_syntax.specs.Nesting.{Measured, measured_step, measured, depth, depth_within, levels_within, most_within, IsInside}
use Rattle.nr_rule_syntax.specs.Reading as spec
use Rattle.nr_rule_syntax.specs.Written.{is_term, are_members, written_step, is_written, IsName}
use Rattle.nr_rule_syntax.proofs.Yields.{Yields, Anything, yields_then, yields_pure, yields_map, yields_refuse, yields_behind, yields_expect, yields_if, yields_chain, yields_weaken}
use Rattle.nr_rule_syntax.proofs.Depths.{looser_2, looser_1, looser_0}
use Rattle.nr_rule_syntax.proofs.WrittenParts.{yields_name, yields_number, yields_address, yields_community, yields_argument}

pub both_true : (a b : Bool) → a ≡ true → b ≡ true → (a && b) ≡ true
both_true true true p q = refl
both_true true false p q = absurd cc
both_true false b p q = absurd cc

-- ---- terms

yields_term_by : (kind : Kind) → Yields (λ t. is_term t ≡ true) (spec.term_by kind)
yields_term_by k.Number = yields_map terms.Number yields_number (λ n h. h)
yields_term_by k.Address = yields_map terms.Number yields_address (λ n h. h)
yields_term_by k.Bits = yields_behind (pure terms.Bits) (yields_pure refl)
yields_term_by k.Length = yields_behind _ (yields_map terms.Length yields_argument (λ n h. h))
yields_term_by k.Med = yields_behind _ (yields_map terms.Med yields_argument (λ n h. h))
yields_term_by k.Pref = yields_behind _ (yields_map terms.Pref yields_argument (λ n h. h))
yields_term_by k.Origin = yields_behind _ (yields_map terms.Origin yields_argument (λ n h. h))
yields_term_by k.First = yields_behind _ (yields_map terms.First yields_argument (λ n h. h))
yields_term_by k.Last = yields_behind _ (yields_map terms.Last yields_argument (λ n h. h))
yields_term_by k.Hop = yields_behind _ (yields_map terms.Hop yields_argument (λ n h. h))
yields_term_by k.Asn = yields_behind _ (yields_map terms.Asn yields_argument (λ n h. h))
yields_term_by _ = yields_refuse

pub yields_by_kind : {A : Type 0} {Q : A → Type 0} (by : Kind → Parser A) → ((kind : Kind) → Yields Q (by kind)) → Yields Q (λ ts. by (kind_of ts) ts)
yields_by_kind by y = record { holds = λ ts x rest proper e. (y (kind_of ts)).holds ts x rest proper e }

pub yields_term : Yields (λ t. is_term t ≡ true) spec.term
unfolding spec.term
yields_term = yields_by_kind spec.term_by yields_term_by

yields_comparison_by : (kind : Kind) → Yields Anything (spec.comparison_by kind)
yields_comparison_by k.Equal = yields_behind (pure cmps.Eq) (yields_pure tt)
yields_comparison_by k.Unequal = yields_behind (pure cmps.Ne) (yields_pure tt)
yields_comparison_by k.Less = yields_behind (pure cmps.Lt) (yields_pure tt)
yields_comparison_by k.LessOrEqual = yields_behind (pure cmps.Le) (yields_pure tt)
yields_comparison_by k.Greater = yields_behind (pure cmps.Gt) (yields_pure tt)
yields_comparison_by k.GreaterOrEqual = yields_behind (pure cmps.Ge) (yields_pure tt)
yields_comparison_by _ = yields_refuse

yields_comparison : Yields Anything spec.comparison
unfolding spec.comparison
yields_comparison = yields_by_kind spec.comparison_by yields_comparison_by

-- ---- what holds of a formula

-- it is written as it should be, and nests no deeper than this where it must bind as tightly as that
pub record IsSound (least levels : ℕ) (form : Form) : Type 0 where
  pub written : is_written form ≡ true
  pub nests : depth_within least form ≤ levels

made : (least levels : ℕ) (form : Form) (b : Bool) (m : Measured) → is_written form ≡ b → b ≡ true → measured form ≡ m → levels_within least m ≤ levels → IsSound least levels form
made least levels form b m w t e h = record { written = w ∙ t; nests = subst (λ (x : Measured). levels_within least x ≤ levels) (sym e) h }

written_at : (x : Form-F Form) (form : Form) → roll-Form x ≡ form → is_written form ≡ is_written (roll-Form x)
written_at x form e = ap is_written (sym e)

measured_at : (x : Form-F Form) (form : Form) → roll-Form x ≡ form → measured form ≡ measured (roll-Form x)
measured_at x form e = ap measured (sym e)

rolled : (x : Form-F Form) → is_written (roll-Form x) ≡ written_step (map-Form Form Bool is_written x)
rolled = fold-roll-Form Bool written_step

measures : (x : Form-F Form) → measured (roll-Form x) ≡ measured_step (map-Form Form Measured measured x)
measures = fold-roll-Form Measured measured_step

-- a layer that is written as it should be, and not too deep
layer : (least levels : ℕ) (x : Form-F Form) (form : Form) → roll-Form x ≡ form → written_step (map-Form Form Bool is_written x) ≡ true
    → levels_within least (measured_step (map-Form Form Measured measured x)) ≤ levels → IsSound least levels form
layer least levels x form e w h =
    made least levels form (written_step (map-Form Form Bool is_written x)) (measured_step (map-Form Form Measured measured x))
    (written_at x form e ∙ rolled x) w (measured_at x form e ∙ measures x) h

yields_compared : (levels : ℕ) → Yields (IsSound 3 levels) spec.compared
unfolding spec.compared
yields_compared levels =
    yields_then yields_term (λ left l. yields_then yields_comparison (λ op _. yields_then yields_term (λ right r.
    yields_pure (layer 3 levels (Form-F.Compare left op right) (forms.Compare left op right) (forms.rolls-Compare left op right) (both_true _ _ l r) (omega arith)))))

-- ---- what holds no formula

yields_route_by : (kind : Kind) → Yields (λ (x : Side × Name). IsName x.1) (spec.route_by kind)
yields_route_by k.Sent = yields_behind _ (yields_map (λ of. (sides.Sent, of)) yields_argument (λ n h. h))
yields_route_by k.Received = yields_behind _ (yields_map (λ of. (sides.Received, of)) yields_argument (λ n h. h))
yields_route_by _ = yields_refuse

yields_route : Yields (λ (x : Side × Name). IsName x.1) spec.route
unfolding spec.route
yields_route = yields_by_kind spec.route_by yields_route_by

yields_about_by : (levels : ℕ) (var : Name) → IsName var → (kind : Kind) → Yields (IsSound 3 levels) (spec.about_by var kind)
yields_about_by levels var v k.Has =
    yields_behind _ (yields_map (forms.Has var) yields_community (λ c h. layer 3 levels (Form-F.Has var c) (forms.Has var c) (forms.rolls-Has var c) (both_true _ _ v h) (omega arith)))
yields_about_by levels var v k.Crosses =
    yields_behind _ (yields_map (forms.Crosses var) yields_term (λ t h. layer 3 levels (Form-F.Crosses var t) (forms.Crosses var t) (forms.rolls-Crosses var t) (both_true _ _ v h) (omega arith)))
yields_about_by levels var v k.Is =
    yields_behind _ (yields_map (forms.Is var) yields_name (λ n h. layer 3 levels (Form-F.Is var n) (forms.Is var n) (forms.rolls-Is var n) (both_true _ _ v h) (omega arith)))
yields_about_by levels var v _ = yields_refuse

yields_about : (levels : ℕ) (var : Name) → IsName var → Yields (IsSound 3 levels) (spec.about var)
unfolding spec.about
yields_about levels var v = yields_by_kind (spec.about_by var) (yields_about_by levels var v)

yields_in_set : (levels : ℕ) → Yields (IsSound 3 levels) spec.in_set
unfolding spec.in_set
yields_in_set levels =
    yields_then (yields_expect k.PrefixWord) (λ _ _. yields_then (yields_expect k.In) (λ _ _. yields_then yields_name (λ set h.
    yields_pure (layer 3 levels (Form-F.PrefixIn set) (forms.PrefixIn set) (forms.rolls-PrefixIn set) h (omega arith)))))

-- ---- what holds formulas

-- what is inside a level
pub record IsHeld (levels : ℕ) (level : Level) (form : Form) : Type 0 where
  pub written : is_written form ≡ true
  pub nests : IsInside levels level form

abbrev YieldsInside : ℕ → spec.Inside → Type 0
YieldsInside levels inside = (level : Level) → Yields (IsHeld levels level) (inside level)

yields_opens : (levels : ℕ) → Yields (λ _. 0 < levels) (spec.opens levels)
yields_opens zero = yields_refuse
yields_opens (suc levels) = yields_behind (pure tt) (yields_pure {x = tt} (omega arith))

in_parentheses : (m : Measured) (n : ℕ) → m.levels < n → levels_within 3 m ≤ n
in_parentheses m n h = grind (arith, nat_tests)

yields_parenthesized : (levels : ℕ) (inside : spec.Inside) → YieldsInside levels inside → Yields (IsSound 3 levels) (spec.parenthesized levels inside)
unfolding spec.parenthesized
yields_parenthesized levels inside y =
    yields_then (yields_opens levels) (λ _ _. yields_then (y Whole) (λ held h. yields_then (yields_expect k.CloseParen) (λ _ _.
    yields_pure (record { written = h.written; nests = in_parentheses (measured held) levels h.nests }))))

-- the parts of `all` or `some`
pub record IsOver (levels : ℕ) (x : Name × Name × Form) : Type 0 where
  pub var : IsName x.0
  pub group : IsName x.1
  pub held : IsHeld levels Whole x.2

yields_over_group : (levels : ℕ) (inside : spec.Inside) → YieldsInside levels inside → Yields (IsOver levels) (spec.over_group levels inside)
unfolding spec.over_group
yields_over_group levels inside y =
    yields_then (yields_opens levels) (λ _ _. yields_then yields_name (λ var v. yields_then (yields_expect k.In) (λ _ _. yields_then yields_name (λ group g.
    yields_then (yields_expect k.OpenBrace) (λ _ _. yields_then (y Whole) (λ held h. yields_then (yields_expect k.CloseBrace) (λ _ _.
    yields_pure (record { var = v; group = g; held = h }))))))))

yields_bound : (levels : ℕ) → Yields (λ (x : Name × (Side × Name)). IsName x.0 × IsName x.1.1) (spec.bound levels)
unfolding spec.bound
yields_bound levels =
    yields_then (yields_opens levels) (λ _ _. yields_then yields_name (λ var v. yields_then (yields_expect k.Equal) (λ _ _. yields_then yields_route (λ from f.
    yields_then (yields_expect k.Then) (λ _ _. yields_pure (v, f))))))

yields_branches : (levels : ℕ) (inside : spec.Inside) → YieldsInside levels inside → Yields (λ (x : Form × Form). IsHeld levels Whole x.0 × IsHeld levels Whole x.1) (spec.branches inside)
unfolding spec.branches
yields_branches levels inside y =
    yields_then (y Whole) (λ yes_ p. yields_then (yields_expect k.Else) (λ _ _. yields_then (y Whole) (λ no_ q. yields_then (yields_expect k.EndWord) (λ _ _.
    yields_pure (p, q)))))

yields_conditional : (levels : ℕ) (inside : spec.Inside) → YieldsInside levels inside → Yields (IsSound 3 levels) (spec.conditional levels inside)
unfolding spec.conditional
yields_conditional levels inside y =
    yields_then (yields_bound levels) (λ head h. yields_then (yields_branches levels inside y) (λ parts p.
    yields_pure (layer 3 levels (Form-F.If head.0 head.1.0 head.1.1 parts.0 parts.1) (forms.If head.0 head.1.0 head.1.1 parts.0 parts.1) (forms.rolls-If head.0 head.1.0 head.1.1 parts.0 parts.1)
    (both_true _ _ (both_true _ _ (both_true _ _ h.0 h.1) p.0.written) p.1.written) (omega (arith, p.0.nests, p.1.nests)))))

yields_atom_by : (levels : ℕ) (inside : spec.Inside) → YieldsInside levels inside → (kind : Kind) → Yields (IsSound 3 levels) (spec.atom_by levels inside kind)
yields_atom_by levels inside y k.True = yields_behind (pure forms.True) (yields_pure (layer 3 levels Form-F.True forms.True forms.rolls-True refl (omega arith)))
yields_atom_by levels inside y k.False = yields_behind (pure forms.False) (yields_pure (layer 3 levels Form-F.False forms.False forms.rolls-False refl (omega arith)))
yields_atom_by levels inside y k.OpenParen = yields_parenthesized levels inside y
yields_atom_by levels inside y k.All = yields_map (λ (x : Name × Name × Form). forms.All x.0 x.1 x.2) (yields_over_group levels inside y) (λ x h.
    layer 3 levels (Form-F.All x.0 x.1 x.2) (forms.All x.0 x.1 x.2) (forms.rolls-All x.0 x.1 x.2) (both_true _ _ (both_true _ _ h.var h.group) h.held.written) (omega (arith, h.held.nests)))
yields_atom_by levels inside y k.Some = yields_map (λ (x : Name × Name × Form). forms.Some x.0 x.1 x.2) (yields_over_group levels inside y) (λ x h.
    layer 3 levels (Form-F.Some x.0 x.1 x.2) (forms.Some x.0 x.1 x.2) (forms.rolls-Some x.0 x.1 x.2) (both_true _ _ (both_true _ _ h.var h.group) h.held.written) (omega (arith, h.held.nests)))
yields_atom_by levels inside y k.If = yields_conditional levels inside y
yields_atom_by levels inside y k.Sent = yields_map (λ (from : Side × Name). forms.Stands from.0 from.1) yields_route (λ x h. layer 3 levels (Form-F.Stands x.0 x.1) (forms.Stands x.0 x.1) (forms.rolls-Stands x.0 x.1) h (omega arith))
yields_atom_by levels inside y k.Received = yields_map (λ (from : Side × Name). forms.Stands from.0 from.1) yields_route (λ x h. layer 3 levels (Form-F.Stands x.0 x.1) (forms.Stands x.0 x.1) (forms.rolls-Stands x.0 x.1) h (omega arith))
yields_atom_by levels inside y k.Name = yields_then yields_name (λ var v. yields_about levels var v)
yields_atom_by levels inside y k.PrefixWord = yields_in_set levels
yields_atom_by levels inside y _ = yields_compared levels

yields_atom : (levels : ℕ) (inside : spec.Inside) → YieldsInside levels inside → Yields (IsSound 3 levels) (spec.atom levels inside)
unfolding spec.atom
yields_atom levels inside y = yields_by_kind (spec.atom_by levels inside) (yields_atom_by levels inside y)

yields_negation : (levels : ℕ) (inside : spec.Inside) → YieldsInside levels inside → Yields (IsSound 3 levels) (spec.negation levels inside)
unfolding spec.negation
yields_negation levels inside y =
    yields_if (sees k.Not)
    (yields_then (yields_opens levels) (λ _ _. yields_map (λ (x : Form). forms.Not x) (y Member) (λ held h.
    layer 3 levels (Form-F.Not held) (forms.Not held) (forms.rolls-Not held) h.written (omega (arith, h.nests)))))
    (yields_atom levels inside y)

-- ---- chains

all_written : (least levels : ℕ) (xs : List Form) → AllOf (IsSound least levels) xs → list_all (λ m. m) (map is_written xs) ≡ true
all_written least levels [] all = refl
all_written least levels (x ∷ xs) all = both_true (is_written x) (list_all (λ m. m) (map is_written xs)) all.0.written (all_written least levels xs all.1)

all_nest : (least levels : ℕ) (xs : List Form) → AllOf (IsSound least levels) xs → most_within least (map measured xs) ≤ levels
all_nest least levels [] all = omega arith
all_nest least levels (x ∷ xs) all = bounded (depth_within least x) (most_within least (map measured xs)) levels all.0.nests (all_nest least levels xs all.1)
  where
    bounded : (a b n : ℕ) → a ≤ n → b ≤ n → max a b ≤ n
    bounded a b n h k = omega arith

members_written : (xs : List Form) → 2 ≤ length xs → list_all (λ m. m) (map is_written xs) ≡ true → are_members (map is_written xs) ≡ true
members_written xs h e = both_true (leb 2 (length (map is_written xs))) (list_all (λ m. m) (map is_written xs)) (le-leb 2 (length (map is_written xs)) (omega (arith, length-map xs is_written, h))) e

yields_conjunction : (levels : ℕ) (inside : spec.Inside) → YieldsInside levels inside → Yields (IsSound 2 levels) (spec.conjunction levels inside)
unfolding spec.conjunction same_kind
yields_conjunction levels inside y =
    yields_chain k.And refl (yields_negation levels inside y)
    (λ x h. record { written = h.written; nests = looser_2 (measured x) levels h.nests })
    (λ xs two all. layer 2 levels (Form-F.And xs) (forms.And xs) (forms.rolls-And xs) (members_written xs two (all_written 3 levels xs all)) (all_nest 3 levels xs all))

yields_disjunction : (levels : ℕ) (inside : spec.Inside) → YieldsInside levels inside → Yields (IsSound 1 levels) (spec.disjunction levels inside)
unfolding spec.disjunction same_kind
yields_disjunction levels inside y =
    yields_chain k.Or refl (yields_conjunction levels inside y)
    (λ x h. record { written = h.written; nests = looser_1 (measured x) levels h.nests })
    (λ xs two all. layer 1 levels (Form-F.Or xs) (forms.Or xs) (forms.rolls-Or xs) (members_written xs two (all_written 2 levels xs all)) (all_nest 2 levels xs all))

-- a formula, at a place where it may bind as it wants
pub record IsWhole (levels : ℕ) (form : Form) : Type 0 where
  pub written : is_written form ≡ true
  pub nests : depth form ≤ levels

loosest : (m : Measured) (n : ℕ) → levels_within 0 m ≤ n → m.levels ≤ n
loosest m n h = grind (arith, nat_tests)

implied : (levels : ℕ) (left right : Form) → IsSound 1 levels left → IsHeld levels Whole right → IsWhole levels (forms.Implies left right)
implied levels left right l r =
    let s = layer 0 levels (Form-F.Implies left right) (forms.Implies left right) (forms.rolls-Implies left right) (both_true _ _ l.written r.written) (bounded (depth_within 1 left) (depth right + 1) levels l.nests (omega (arith, r.nests))) in
    record { written = s.written; nests = loosest (measured (forms.Implies left right)) levels s.nests }
  where
    bounded : (a b n : ℕ) → a ≤ n → b ≤ n → max a b ≤ n
    bounded a b n h k = omega arith

yields_formula : (levels : ℕ) (inside : spec.Inside) → YieldsInside levels inside → Yields (IsWhole levels) (spec.formula levels inside)
unfolding spec.formula
yields_formula levels inside y =
    yields_then (yields_disjunction levels inside y) (λ left l.
    yields_if (sees k.Implies)
    (yields_then (yields_opens levels) (λ _ _. yields_map (λ (right : Form). forms.Implies left right) (y Whole) (λ right r. implied levels left right l r)))
    (yields_pure {x = left} (record { written = l.written; nests = looser_0 (measured left) levels l.nests })))

pub yields_inside : (levels : ℕ) → YieldsInside levels (spec.inside levels)
unfolding spec.inside
yields_inside zero level = yields_refuse
yields_inside (suc levels) Whole = yields_weaken (yields_formula levels (spec.inside levels) (yields_inside levels)) (λ x h. record { written = h.written; nests = omega (arith, h.nests) })
yields_inside (suc levels) Member = yields_weaken (yields_negation levels (spec.inside levels) (yields_inside levels)) (λ x h. record { written = h.written; nests = omega (arith, h.nests) })
