-- Formulas, level by level.
use Rattle.std.proofs.Common.{◌≡◌, ℕ, zero, suc, true, false, List, [], ◌∷◌, ◌++◌, refl, sym, subst, inl, inr}
use Rattle.nr_spec_rules.specs.declared.kind.Kind.{Kind}
use Rattle.nr_spec_rules.specs.declared.kind.Kind.TheVariants as k
use Rattle.nr_spec_rules.specs.Tokens.{Token, same_kind, kind_of, goes_on}
use Rattle.nr_spec_rules.specs.Parsing as parsing
use Rattle.nr_spec_rules.specs.Parsing.{Parser}
use Rattle.nr_rule_syntax.specs.declared.tree.Name.{Name}
use Rattle.nr_rule_syntax.specs.declared.tree.Side.{Side}
use Rattle.nr_rule_syntax.specs.declared.tree.Form.{Form}
use Rattle.nr_rule_syntax.specs.declared.tree.Form.TheVariants as forms
use Rattle.nr_rule_syntax.specs.declared.formula.Level.TheVariants.{Whole, Member}
use Rattle.nr_rule_syntax.specs.Reading as read
use Rattle.nr_laws_rules.specs.Productions as words
use Rattle.nr_laws_rules.specs.Productions.{StandsFor, token}
use Rattle.nr_laws_rules.specs.Grammar.{Inside, IsName, IsRoute, IsAbout, IsParenthesized, IsOverGroup, IsBound, IsBranches, IsConditional, IsInSet, IsCompared, IsAtom, IsNot, IsAnd, IsOr, IsForm, held}
use Rattle.nr_laws_rules.proofs.KindLaws.{Free}
use Rattle.nr_laws_rules.proofs.Steps.{Traced, Complete, Goes, Decides, HasWord, Follows, IsChosen, Leads, Begins, word_of, word_behind, widened, widened_word, refused_at_once, bound, next, mapped, bind_goes, one_goes, pure_decides, pure_traced, expect_decides, one_leads, bind_leads, leads_begin, leads_follow, or_begins, bind_begins, chosen, chosen_passed, ◌else◌, by_kind, passed_traced, passed_complete, either_decides, maybe_decides, DecidesAt, passed_at, next_at, mapped_at, chosen_at}
use Rattle.nr_laws_rules.proofs.Chains.{chain_decides}
use Rattle.nr_laws_rules.proofs.Terms.{name_decides, compared_decides, route_decides, about_decides, in_set_decides, term_begins, route_begins}

-- what is read inside a level is what a level holds
pub record Holds (levels : ℕ) : Type 0 where
  pub whole : Decides (read.inside levels Whole) (held levels Whole) (k.Implies ∷ k.Or ∷ k.And ∷ [])
  pub member : Decides (read.inside levels Member) (held levels Member) []

-- the same for the level that may be opened here, where one may
abbrev Opened : ℕ → Type 0
Opened zero = Unit {0}
Opened (suc levels) = Holds (suc levels)

-- what stands behind a formula inside a level
closes : {B : Type 0} {S : StandsFor B} {stops : List Kind} (kind : Kind) → Leads kind S → Free (k.Implies ∷ k.Or ∷ k.And ∷ []) kind → Follows (k.Implies ∷ k.Or ∷ k.And ∷ []) S stops
closes kind h free = leads_follow kind h free

-- ---- the atoms that open a level

has_atom : (inside : Inside) → HasWord (IsAtom inside)
unfolding IsAtom same_kind
has_atom inside = widened_word (λ w a r. inl r) (word_behind k.True (word_of (pure_traced {a = forms.True} [])))

parenthesized_at : (levels : ℕ) → Holds (suc levels) → DecidesAt k.OpenParen (read.parenthesized (suc levels) (read.inside (suc levels))) (IsParenthesized (held (suc levels))) []
unfolding read.parenthesized IsParenthesized same_kind
parenthesized_at levels h =
    passed_at k.OpenParen refl refl (bound h.whole (λ form. next (expect_decides k.CloseParen refl refl) (λ close. pure_decides)) (λ form. closes k.CloseParen (one_leads k.CloseParen) (refl, (refl, (refl, tt)))))

over_group_at : (kind : Kind) → same_kind k.End kind ≡ false → goes_on kind ≡ true → (levels : ℕ) → Holds (suc levels)
    → DecidesAt kind (read.over_group (suc levels) (read.inside (suc levels))) (IsOverGroup kind (held (suc levels))) []
unfolding read.over_group IsOverGroup same_kind
over_group_at kind ne go levels h =
    passed_at kind ne go (next name_decides (λ var. next (expect_decides k.In refl refl) (λ among. next name_decides (λ group. next (expect_decides k.OpenBrace refl refl) (λ brace.
    bound h.whole (λ form. next (expect_decides k.CloseBrace refl refl) (λ close. pure_decides)) (λ form. closes k.CloseBrace (one_leads k.CloseBrace) (refl, (refl, (refl, tt)))))))))

bound_at : (levels : ℕ) → DecidesAt k.If (read.bound (suc levels)) IsBound []
unfolding read.bound IsBound same_kind
bound_at levels =
    passed_at k.If refl refl (next name_decides (λ var. next (expect_decides k.Equal refl refl) (λ is. next route_decides (λ from. next (expect_decides k.Then refl refl) (λ then_. pure_decides)))))

branches_decide : (levels : ℕ) → Holds (suc levels) → Decides (read.branches (read.inside (suc levels))) (IsBranches (held (suc levels))) []
unfolding read.branches IsBranches same_kind
branches_decide levels h =
    bound h.whole
    (λ yes_. next (expect_decides k.Else refl refl) (λ else_.
    bound h.whole (λ no_. next (expect_decides k.EndWord refl refl) (λ close. pure_decides)) (λ no_. closes k.EndWord (one_leads k.EndWord) (refl, (refl, (refl, tt))))))
    (λ yes_. closes k.Else (one_leads k.Else) (refl, (refl, (refl, tt))))

conditional_at : (levels : ℕ) → Holds (suc levels) → DecidesAt k.If (read.conditional (suc levels) (read.inside (suc levels))) (IsConditional (held (suc levels))) []
unfolding read.conditional IsConditional
conditional_at levels h = next_at (bound_at levels) (λ head. next (branches_decide levels h) (λ parts. pure_decides))

-- ---- atoms

atom_traced : (levels : ℕ) → Opened levels → (kind : Kind) (ts : List Token) → kind_of ts ≡ kind → Traced (read.atom_by levels (read.inside levels) kind) (IsAtom (held levels)) ts
unfolding IsAtom same_kind read.parenthesized read.over_group read.conditional read.bound
atom_traced levels o k.True ts e = widened (λ w a r. inl r) (passed_traced k.True refl ts e pure_traced)
atom_traced levels o k.False ts e = widened (λ w a r. inr (inl r)) (passed_traced k.False refl ts e pure_traced)
atom_traced zero o k.OpenParen ts e = refused_at_once ts (has_atom (held zero)) (λ y s. refl)
atom_traced (suc levels) o k.OpenParen ts e = widened (λ w a r. inr (inr (inl r))) ((parenthesized_at levels o).traced ts e)
atom_traced zero o k.All ts e = refused_at_once ts (has_atom (held zero)) (λ y s. refl)
atom_traced (suc levels) o k.All ts e = widened (λ w a r. inr (inr (inr (inl r)))) ((mapped_at _ (over_group_at k.All refl refl levels o)).traced ts e)
atom_traced zero o k.Some ts e = refused_at_once ts (has_atom (held zero)) (λ y s. refl)
atom_traced (suc levels) o k.Some ts e = widened (λ w a r. inr (inr (inr (inr (inl r))))) ((mapped_at _ (over_group_at k.Some refl refl levels o)).traced ts e)
atom_traced zero o k.If ts e = refused_at_once ts (has_atom (held zero)) (λ y s. refl)
atom_traced (suc levels) o k.If ts e = widened (λ w a r. inr (inr (inr (inr (inr (inl r)))))) ((conditional_at levels o).traced ts e)
atom_traced levels o k.Sent ts e = widened (λ w a r. inr (inr (inr (inr (inr (inr (inl r))))))) ((mapped _ route_decides).traced ts)
atom_traced levels o k.Received ts e = widened (λ w a r. inr (inr (inr (inr (inr (inr (inl r))))))) ((mapped _ route_decides).traced ts)
atom_traced levels o k.Name ts e = widened (λ w a r. inr (inr (inr (inr (inr (inr (inr (inl r)))))))) ((next name_decides about_decides).traced ts)
atom_traced levels o k.PrefixWord ts e = widened (λ w a r. inr (inr (inr (inr (inr (inr (inr (inr (inl r))))))))) (in_set_decides.traced ts)
atom_traced levels o _ ts e = widened (λ w a r. inr (inr (inr (inr (inr (inr (inr (inr (inr r))))))))) (compared_decides.traced ts)

-- what has no words
impossible : {A : Type 0} {P : Kind → Parser A} {R : StandsFor A} {stops : List Kind} → ((w : List Token) (a : A) → R w a → ⊥) → IsChosen P R stops
impossible h = record { complete = record { takes = λ w a after r free. absurd (h w a r) }; goes = record { all = λ w a r. absurd (h w a r) } }

parenthesized_chosen : (levels : ℕ) → Opened levels → IsChosen (read.atom_by levels (read.inside levels)) (IsParenthesized (held levels)) []
unfolding IsParenthesized held
parenthesized_chosen zero o = impossible (λ w a r. r.5.4)
parenthesized_chosen (suc levels) o = chosen_at refl (parenthesized_at levels o)

all_chosen : (levels : ℕ) → Opened levels
    → IsChosen (read.atom_by levels (read.inside levels)) (words.◌<$>◌ (λ (x : Name × Name × Form). forms.All x.0 x.1 x.2) (IsOverGroup k.All (held levels))) []
unfolding IsOverGroup held same_kind
all_chosen zero o = impossible (λ w a r. r.4.5.5.5.5.5.4)
all_chosen (suc levels) o = chosen_at refl (mapped_at (λ x. forms.All x.0 x.1 x.2) (over_group_at k.All refl refl levels o))

some_chosen : (levels : ℕ) → Opened levels
    → IsChosen (read.atom_by levels (read.inside levels)) (words.◌<$>◌ (λ (x : Name × Name × Form). forms.Some x.0 x.1 x.2) (IsOverGroup k.Some (held levels))) []
unfolding IsOverGroup held same_kind
some_chosen zero o = impossible (λ w a r. r.4.5.5.5.5.5.4)
some_chosen (suc levels) o = chosen_at refl (mapped_at (λ x. forms.Some x.0 x.1 x.2) (over_group_at k.Some refl refl levels o))

conditional_chosen : (levels : ℕ) → Opened levels → IsChosen (read.atom_by levels (read.inside levels)) (IsConditional (held levels)) []
unfolding IsConditional IsBranches held
conditional_chosen zero o = impossible (λ w a r. r.5.4.4)
conditional_chosen (suc levels) o = chosen_at refl (conditional_at levels o)

route_chosen : (levels : ℕ) → IsChosen (read.atom_by levels (read.inside levels)) (words.◌<$>◌ (λ (from : Side × Name). forms.Stands from.0 from.1) IsRoute) []
route_chosen levels = let h = mapped (λ (from : Side × Name). forms.Stands from.0 from.1) route_decides in chosen (bind_begins (route_begins refl refl)) h.complete h.goes

name_chosen : (levels : ℕ) → IsChosen (read.atom_by levels (read.inside levels)) (words.◌>>=◌ IsName IsAbout) []
unfolding IsName
name_chosen levels = let h = next name_decides about_decides in chosen (leads_begin k.Name (bind_leads k.Name (one_leads k.Name)) refl) h.complete h.goes

in_set_chosen : (levels : ℕ) → IsChosen (read.atom_by levels (read.inside levels)) IsInSet []
unfolding IsInSet
in_set_chosen levels = chosen (leads_begin k.PrefixWord (one_leads k.PrefixWord) refl) in_set_decides.complete in_set_decides.goes

compared_chosen : (levels : ℕ) → IsChosen (read.atom_by levels (read.inside levels)) IsCompared []
unfolding IsCompared
compared_chosen levels = chosen (bind_begins (term_begins refl refl refl refl refl refl refl refl refl refl refl)) compared_decides.complete compared_decides.goes

atom_decides : (levels : ℕ) → Opened levels → Decides (read.atom levels (read.inside levels)) (IsAtom (held levels)) []
unfolding read.atom IsAtom
atom_decides levels o =
    by_kind (atom_traced levels o)
    (chosen_passed k.True refl refl pure_decides else chosen_passed k.False refl refl pure_decides else parenthesized_chosen levels o else all_chosen levels o else some_chosen levels o
    else conditional_chosen levels o else route_chosen levels else name_chosen levels else in_set_chosen levels else compared_chosen levels)

atom_begins : (inside : Inside) → Begins (λ kind. same_kind kind k.Not ≡ false) (IsAtom inside)
unfolding IsAtom IsParenthesized IsOverGroup IsConditional IsBound IsName IsInSet IsCompared same_kind
atom_begins inside =
    or_begins (leads_begin k.True (one_leads k.True) refl) (or_begins (leads_begin k.False (one_leads k.False) refl)
    (or_begins (leads_begin k.OpenParen (one_leads k.OpenParen) refl) (or_begins (leads_begin k.All (bind_leads k.All (one_leads k.All)) refl)
    (or_begins (leads_begin k.Some (bind_leads k.Some (one_leads k.Some)) refl) (or_begins (leads_begin k.If (bind_leads k.If (one_leads k.If)) refl)
    (or_begins (bind_begins (route_begins refl refl)) (or_begins (leads_begin k.Name (bind_leads k.Name (one_leads k.Name)) refl)
    (or_begins (leads_begin k.PrefixWord (one_leads k.PrefixWord) refl) (bind_begins (term_begins refl refl refl refl refl refl refl refl refl refl refl))))))))))

-- ---- formulas

abbrev Denied : ℕ → StandsFor Form
Denied levels = words.◌>>◌ (token k.Not) (words.◌<$>◌ forms.Not (held levels Member))

denied : ℕ → Parser Form
denied levels = parsing.◌>>◌ (read.opens levels) (parsing.◌<$>◌ forms.Not (read.inside levels Member))

denied_traced : (levels : ℕ) → Opened levels → (ts : List Token) → kind_of ts ≡ k.Not → Traced (denied levels) (words.◌or◌ (Denied levels) (IsAtom (held levels))) ts
unfolding denied same_kind
denied_traced zero o ts e = refused_at_once ts (widened_word (λ w a r. inr r) (has_atom (held zero))) (λ y s. refl)
denied_traced (suc levels) o ts e = widened (λ w a r. inl r) (passed_traced k.Not refl ts e (mapped forms.Not o.member).traced)

denied_taken : (levels : ℕ) → Opened levels → Complete (denied levels) (Denied levels) []
unfolding denied held
denied_taken zero o = record { takes = λ w a after r free. absurd r.5.4 }
denied_taken (suc levels) o = passed_complete k.Not (mapped forms.Not o.member).complete

denied_goes : (levels : ℕ) → Opened levels → Goes (Denied levels)
unfolding held
denied_goes zero o = record { all = λ w a r. absurd r.5.4 }
denied_goes (suc levels) o = bind_goes (one_goes refl) (λ _. (mapped forms.Not o.member).goes)

negation_decides : (levels : ℕ) → Opened levels → Decides (read.negation levels (read.inside levels)) (IsNot (held levels)) []
unfolding read.negation IsNot denied
negation_decides levels o =
    either_decides k.Not (denied_traced levels o) (one_leads k.Not) (denied_taken levels o) (denied_goes levels o) (atom_begins (held levels)) (atom_decides levels o)

conjunction_decides : (levels : ℕ) → Opened levels → Decides (read.conjunction levels (read.inside levels)) (IsAnd (held levels)) (k.And ∷ [])
unfolding read.conjunction IsAnd same_kind
conjunction_decides levels o = chain_decides k.And refl refl tt (negation_decides levels o) forms.And

disjunction_decides : (levels : ℕ) → Opened levels → Decides (read.disjunction levels (read.inside levels)) (IsOr (held levels)) (k.Or ∷ k.And ∷ [])
unfolding read.disjunction IsOr same_kind
disjunction_decides levels o = chain_decides k.Or refl refl (refl, tt) (conjunction_decides levels o) forms.Or

abbrev Implied : ℕ → Form → StandsFor Form
Implied levels left = words.◌>>◌ (token k.Implies) (words.◌>>=◌ (held levels Whole) (λ right. words.gives (forms.Implies left right)))

implied : ℕ → Form → Parser Form
implied levels left = parsing.◌>>◌ (read.opens levels) (parsing.◌<$>◌ (λ right. forms.Implies left right) (read.inside levels Whole))

implied_traced : (levels : ℕ) → Opened levels → (left : Form) (ts : List Token) → kind_of ts ≡ k.Implies → Traced (implied levels left) (words.◌or◌ (Implied levels left) (words.gives left)) ts
unfolding implied same_kind
implied_traced zero o left ts e = refused_at_once ts (record { here = λ at. record { kinds = []; value = left; is = inr (refl, refl) } }) (λ y s. refl)
implied_traced (suc levels) o left ts e = widened (λ w a r. inl r) (passed_traced k.Implies refl ts e (mapped (λ right. forms.Implies left right) o.whole).traced)

implied_taken : (levels : ℕ) → Opened levels → (left : Form) → Complete (implied levels left) (Implied levels left) (k.Implies ∷ k.Or ∷ k.And ∷ [])
unfolding implied held
implied_taken zero o left = record { takes = λ w a after r free. absurd r.5.4 }
implied_taken (suc levels) o left = passed_complete k.Implies (mapped (λ right. forms.Implies left right) o.whole).complete

implied_goes : (levels : ℕ) → Opened levels → (left : Form) → Goes (Implied levels left)
unfolding held
implied_goes zero o left = record { all = λ w a r. absurd r.5.4 }
implied_goes (suc levels) o left = bind_goes (one_goes refl) (λ _. (mapped (λ right. forms.Implies left right) o.whole).goes)

implied_leads : (levels : ℕ) (left : Form) → Leads k.Implies (Implied levels left)
implied_leads levels left = one_leads k.Implies

formula_decides : (levels : ℕ) → Opened levels → Decides (read.formula levels (read.inside levels)) (IsForm (held levels)) (k.Implies ∷ k.Or ∷ k.And ∷ [])
unfolding read.formula IsForm implied same_kind
formula_decides levels o =
    bound (disjunction_decides levels o)
    (λ left. maybe_decides k.Implies left (record { here = λ x free. free.0; inside = λ x free. free }) (implied_traced levels o left) (implied_leads levels left) (implied_taken levels o left)
    (implied_goes levels o left))
    (λ left. record { free = follow left })
  where
    follow : (left : Form) (w : List Token) (x : Form) (after : List Token) → words.◌or◌ (Implied levels left) (words.gives left) w x
        → Free (k.Implies ∷ k.Or ∷ k.And ∷ []) (kind_of after) → Free (k.Or ∷ k.And ∷ []) (kind_of (w ++ after))
    follow left w x after (inl r) free = subst (λ (kind : Kind). Free (k.Or ∷ k.And ∷ []) kind) (sym ((implied_leads levels left).leads w x after r)) (refl, (refl, tt))
    follow left w x after (inr (e, made)) free = rw e free.1

pub inside_holds : (levels : ℕ) → Holds (suc levels)
unfolding read.inside held
inside_holds zero = record { whole = formula_decides zero tt; member = negation_decides zero tt }
inside_holds (suc levels) = record { whole = formula_decides (suc levels) (inside_holds levels); member = negation_decides (suc levels) (inside_holds levels) }

-- a whole formula
pub whole_decides : (levels : ℕ) → Decides (read.inside (suc (suc levels)) Whole) (IsForm (held (suc levels))) (k.Implies ∷ k.Or ∷ k.And ∷ [])
unfolding read.inside
whole_decides levels = formula_decides (suc levels) (inside_holds levels)
