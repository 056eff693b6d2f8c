-- The words of each formula are read as that formula: by induction over it.
use Rattle.std.proofs.Common.{◌≡◌, ℕ, zero, suc, ◌+◌, ◌≤◌, max, Bool, true, false, ◌&&◌, cond, ltb, leb, List, [], ◌∷◌, length, map, refl, sym, ap, subst, ◌∙◌, arith}
use Rattle.std.specs.List.{AllByRecursion, list_all}
use Rattle.std.proofs.lemmas.Bool.{leb-true}
use Rattle.std.proofs.lemmas.List.{length-map}
use denote.Hole.Holds.{Such}
use Rattle.nr_spec_rules.specs.declared.kind.Kind.TheVariants as k
use Rattle.nr_spec_rules.specs.Tokens.{same_kind}
use Rattle.nr_spec_rules.specs.Parsing.{Parser, pure}
use Rattle.nr_rule_syntax.specs.declared.tree.Name.{Name}
use Rattle.nr_rule_syntax.specs.declared.tree.Side.{Side}
use Rattle.nr_rule_syntax.specs.declared.tree.Side.TheVariants as sides
use Rattle.nr_rule_syntax.specs.declared.tree.Cmp.{Cmp}
use Rattle.nr_rule_syntax.specs.declared.tree.Term.{Term}
use Rattle.nr_rule_syntax.specs.declared.tree.Term.TheVariants as terms
use Rattle.nr_rule_syntax.specs.declared.tree.Form.{Form}
use Rattle.nr_rule_syntax.specs.declared.tree.Form.TheOpen.{Form-F}
use Rattle.nr_rule_syntax.specs.declared.tree.Form.TheViews.{roll-Form}
use Rattle.nr_rule_syntax.specs.declared.tree.Form.TheFolds.{fold-roll-Form, ind-Form, map-Form}
use Rattle.nr_rule_syntax.specs.declared.tree.Form.TheVariants as forms
use Rattle.nr_rule_syntax.specs.Nesting.{Measured, measured_step, measured, levels_within, most_within}
use Rattle.nr_rule_syntax.specs.Reading as spec
use Rattle.nr_rule_syntax.specs.Reading.{inside, formula, disjunction, conjunction, negation}
use Rattle.nr_rule_syntax.specs.Written.{is_name, is_term, is_short, written_step, is_written}
use Rattle.nr_laws_print.specs.Bare.{bare_step, bare_form, bare_name, bare_term}
use Rattle.nr_laws_print.proofs.Words.{Shown, Words, Worded, word, words_within, worded_step, worded, term_words, comparison_word, open_paren, close_paren, joined, and_word, or_word, not_word, implies_word, in_word, open_brace, close_brace, equal, if_word, then_word, else_word, end_word, group_words, if_words, route_words}
use Rattle.nr_laws_print.proofs.Gives.{Gives, IsApart, gives_then, gives_pure, gives_map, gives_behind, gives_expect, gives_seen}
use Rattle.nr_laws_print.proofs.Chains.{Item, IsItem, words_of, values_of, gives_chain, grows_joined}
use Rattle.nr_laws_print.proofs.Parts.{gives_name, gives_community, gives_by_kind, gives_term, gives_comparison, bare_from, gives_route}
use Rattle.nr_laws_print.proofs.Returns.{Stops, Returns, in_atom, returns_3, returns_2, returns_1, returns_0}

of_both : (a b : Bool) → (a && b) ≡ true → (a ≡ true) × (b ≡ true)
of_both true true e = (refl, refl)
of_both true false e = absurd cc
of_both false b e = absurd cc

-- ---- a formula of one layer

bared : (x : Form-F Form) (form : Form) → roll-Form x ≡ form → bare_form form ≡ bare_step (map-Form Form Form bare_form x)
bared x form e = ap bare_form (sym e) ∙ fold-roll-Form Form bare_step x

grows_within : (least : ℕ) (w : Worded) → ((rest : List Shown) → length rest ≤ length (w.words rest)) → (rest : List Shown) → length rest ≤ length (words_within least w rest)
grows_within least w grows rest = by_test (ltb w.binds least)
  where
    by_test : (b : Bool) → length rest ≤ length (cond b (open_paren ∷ w.words (close_paren ∷ rest)) (w.words rest))
    by_test true = omega (arith, grows (close_paren ∷ rest))
    by_test false = grows rest

grows_term : (t : Term) (rest : List Shown) → length rest ≤ length (term_words t rest)
grows_term (terms.Number n) rest = omega arith
grows_term terms.Bits rest = omega arith
grows_term (terms.Length of) rest = omega arith
grows_term (terms.Med of) rest = omega arith
grows_term (terms.Pref of) rest = omega arith
grows_term (terms.Origin of) rest = omega arith
grows_term (terms.First of) rest = omega arith
grows_term (terms.Last of) rest = omega arith
grows_term (terms.Hop of) rest = omega arith
grows_term (terms.Asn of) rest = omega arith

compare_of : (a b : Term) (p : Cmp) (c d : Term) (q : Cmp) → a ≡ c → b ≡ d → p ≡ q → forms.Compare a p b ≡ forms.Compare c q d
compare_of a b p c d q e f g = cc (e, f, g)

gives_compared : (left right : Term) (op : Cmp) (rest : List Shown) → is_term left ≡ true → is_term right ≡ true
    → Gives bare_form (forms.Compare (bare_term left) op (bare_term right)) spec.compared (term_words left (comparison_word op ∷ term_words right rest)) rest
unfolding spec.compared
gives_compared left right op rest l r =
    gives_then (gives_term left l) (λ a e. gives_then (gives_comparison op) (λ p g. gives_then (gives_term right r) (λ b f.
    gives_pure (bared (Form-F.Compare a p b) (forms.Compare a p b) (forms.rolls-Compare a p b) ∙ compare_of (bare_term a) (bare_term b) p (bare_term left) (bare_term right) op e f g))))

compared_atom : (left right : Term) (op : Cmp) → is_term left ≡ true → is_term right ≡ true → (n : ℕ) (rest : List Shown)
    → Gives bare_form (forms.Compare (bare_term left) op (bare_term right)) (negation n (inside n)) (term_words left (comparison_word op ∷ term_words right rest)) rest
unfolding same_kind
compared_atom (terms.Number x) right op l r n rest = in_atom n (word k.Number _) refl (gives_compared (terms.Number x) right op rest l r)
compared_atom terms.Bits right op l r n rest = in_atom n (word k.Bits _) refl (gives_compared terms.Bits right op rest l r)
compared_atom (terms.Length x) right op l r n rest = in_atom n (word k.Length _) refl (gives_compared (terms.Length x) right op rest l r)
compared_atom (terms.Med x) right op l r n rest = in_atom n (word k.Med _) refl (gives_compared (terms.Med x) right op rest l r)
compared_atom (terms.Pref x) right op l r n rest = in_atom n (word k.Pref _) refl (gives_compared (terms.Pref x) right op rest l r)
compared_atom (terms.Origin x) right op l r n rest = in_atom n (word k.Origin _) refl (gives_compared (terms.Origin x) right op rest l r)
compared_atom (terms.First x) right op l r n rest = in_atom n (word k.First _) refl (gives_compared (terms.First x) right op rest l r)
compared_atom (terms.Last x) right op l r n rest = in_atom n (word k.Last _) refl (gives_compared (terms.Last x) right op rest l r)
compared_atom (terms.Hop x) right op l r n rest = in_atom n (word k.Hop _) refl (gives_compared (terms.Hop x) right op rest l r)
compared_atom (terms.Asn x) right op l r n rest = in_atom n (word k.Asn _) refl (gives_compared (terms.Asn x) right op rest l r)

-- what holds of the layer of a formula
abbrev Layer : Form-F Form → Type 0
Layer x = written_step (map-Form Form Bool is_written x) ≡ true
    → Returns (bare_step (map-Form Form Form bare_form x)) (worded_step (map-Form Form Worded worded x)) (measured_step (map-Form Form Measured measured x))

layer_compare : (left : Term) (op : Cmp) (right : Term) → Layer (Form-F.Compare left op right)
layer_compare left op right h =
    let both = of_both (is_term left) (is_term right) h in
    returns_3 _ _ 0 (λ rest. omega (arith, grows_term left (comparison_word op ∷ term_words right rest), grows_term right rest)) (λ n rest e. compared_atom left right op both.0 both.1 n rest)

layer_true : Layer Form-F.True
unfolding same_kind
layer_true h = returns_3 _ _ 0 (λ rest. omega arith) (λ n rest e. in_atom n (word k.True _) refl (gives_behind (word k.True _) (pure forms.True) (gives_pure (bared Form-F.True forms.True forms.rolls-True))))

layer_false : Layer Form-F.False
unfolding same_kind
layer_false h = returns_3 _ _ 0 (λ rest. omega arith) (λ n rest e. in_atom n (word k.False _) refl (gives_behind (word k.False _) (pure forms.False) (gives_pure (bared Form-F.False forms.False forms.rolls-False))))

layer_stands : (side : Side) (of : Name) → Layer (Form-F.Stands side of)
unfolding same_kind
layer_stands sides.Sent of h = returns_3 _ _ 0 (λ rest. omega arith) (λ n rest e. in_atom n (word k.Sent _) refl
    (gives_map _ (gives_route sides.Sent of) (λ x q. bared (Form-F.Stands x.0 x.1) (forms.Stands x.0 x.1) (forms.rolls-Stands x.0 x.1) ∙ ap (λ (y : Side × Name). forms.Stands y.0 y.1) q)))
layer_stands sides.Received of h = returns_3 _ _ 0 (λ rest. omega arith) (λ n rest e. in_atom n (word k.Received _) refl
    (gives_map _ (gives_route sides.Received of) (λ x q. bared (Form-F.Stands x.0 x.1) (forms.Stands x.0 x.1) (forms.rolls-Stands x.0 x.1) ∙ ap (λ (y : Side × Name). forms.Stands y.0 y.1) q)))

layer_has : (var : Name) (community : ℕ) → Layer (Form-F.Has var community)
unfolding same_kind spec.about
layer_has var community h =
    let both = of_both (is_name var) (is_short community) h in
    returns_3 _ _ 0 (λ rest. omega arith) (λ n rest e. in_atom n (word k.Name _) refl (gives_then (gives_name var) (λ v p.
    gives_by_kind (spec.about_by v) (word k.Has _) (gives_behind (word k.Has _) _ (gives_map (forms.Has v) (gives_community community both.1) (λ c q.
    bared (Form-F.Has v c) (forms.Has v c) (forms.rolls-Has v c) ∙ cc (p, q)))))))

layer_crosses : (var : Name) (term : Term) → Layer (Form-F.Crosses var term)
unfolding same_kind spec.about
layer_crosses var term h =
    let both = of_both (is_name var) (is_term term) h in
    returns_3 _ _ 0 (λ rest. omega (arith, grows_term term rest)) (λ n rest e. in_atom n (word k.Name _) refl (gives_then (gives_name var) (λ v p.
    gives_by_kind (spec.about_by v) (word k.Crosses _) (gives_behind (word k.Crosses _) _ (gives_map (forms.Crosses v) (gives_term term both.1) (λ t q.
    bared (Form-F.Crosses v t) (forms.Crosses v t) (forms.rolls-Crosses v t) ∙ cc (p, q)))))))

layer_is : (left right : Name) → Layer (Form-F.Is left right)
unfolding same_kind spec.about
layer_is left right h =
    returns_3 _ _ 0 (λ rest. omega arith) (λ n rest e. in_atom n (word k.Name _) refl (gives_then (gives_name left) (λ v p.
    gives_by_kind (spec.about_by v) (word k.Is _) (gives_behind (word k.Is _) _ (gives_map (forms.Is v) (gives_name right) (λ r q.
    bared (Form-F.Is v r) (forms.Is v r) (forms.rolls-Is v r) ∙ cc (p, q)))))))

layer_prefix_in : (set : Name) → Layer (Form-F.PrefixIn set)
unfolding same_kind spec.in_set
layer_prefix_in set h =
    returns_3 _ _ 0 (λ rest. omega arith) (λ n rest e. in_atom n (word k.PrefixWord _) refl (gives_then (gives_expect (word k.PrefixWord _)) (λ _ _. gives_then (gives_expect (word k.In _)) (λ _ _.
    gives_then (gives_name set) (λ s q. gives_pure (bared (Form-F.PrefixIn s) (forms.PrefixIn s) (forms.rolls-PrefixIn s) ∙ cc q))))))

-- ---- what holds formulas

abbrev Holds : Form → Type 0
Holds form = is_written form ≡ true → Returns (bare_form form) (worded form) (measured form)

abbrev Held : Type 0
Held = (form : Form) × Holds form

layer_not : (held : Held) → Layer (Form-F.Not held.0)
unfolding same_kind negation inside
layer_not held h =
    let r = held.1 h in
    returns_3 _ _ _ (λ rest. omega (arith, grows_within 3 (worded held.0) r.grows rest)) gives
  where
    gives : (n : ℕ) (rest : List Shown) → levels_within 3 (measured held.0) + 1 ≤ n
        → Gives bare_form (forms.Not (bare_form held.0)) (negation n (inside n)) (not_word ∷ words_within 3 (worded held.0) rest) rest
    gives zero rest e = absurd (omega arith)
    gives (suc n) rest e = gives_seen _ _ (gives_behind not_word _ (gives_map (λ (x : Form). forms.Not x) ((held.1 h).as_not n rest (omega arith)) (λ x q.
        bared (Form-F.Not x) (forms.Not x) (forms.rolls-Not x) ∙ ap (λ (y : Form). forms.Not y) q)))

layer_implies : (left right : Held) → Layer (Form-F.Implies left.0 right.0)
unfolding same_kind formula inside
layer_implies left right h =
    let both = of_both (is_written left.0) (is_written right.0) h in
    let l = left.1 both.0 in
    let r = right.1 both.1 in
    returns_0 _ _ _ (λ rest. omega (arith, grows_within 1 (worded left.0) l.grows (implies_word ∷ (worded right.0).words rest), r.grows rest)) (gives l r)
  where
    gives : Returns (bare_form left.0) (worded left.0) (measured left.0) → Returns (bare_form right.0) (worded right.0) (measured right.0)
        → (n : ℕ) (rest : List Shown) → max (levels_within 1 (measured left.0)) ((measured right.0).levels + 1) ≤ n → Stops rest
        → Gives bare_form (forms.Implies (bare_form left.0) (bare_form right.0)) (formula n (inside n)) (words_within 1 (worded left.0) (implies_word ∷ (worded right.0).words rest)) rest
    gives l r zero rest e stops = absurd (omega arith)
    gives l r (suc n) rest e stops =
        gives_then (l.as_or (suc n) (implies_word ∷ (worded right.0).words rest) (omega arith) (record { apart = refl }) (record { apart = refl })) (λ x p.
        gives_seen _ _ (gives_behind implies_word _ (gives_map (λ (y : Form). forms.Implies x y) (r.whole n rest (omega arith) stops) (λ y q.
        bared (Form-F.Implies x y) (forms.Implies x y) (forms.rolls-Implies x y) ∙ cc (p, q)))))

-- behind `all` or `some`
abbrev bare_over : Name × Name × Form → Name × Name × Form
bare_over x = (bare_name x.0, bare_name x.1, bare_form x.2)

stops_brace : (rest : List Shown) → Stops (close_brace ∷ rest)
unfolding same_kind
stops_brace rest = record { no_and = record { apart = refl }; no_or = record { apart = refl }; no_implies = record { apart = refl } }

over_of : (a b : Name) (c : Form) (p q : Name) (r : Form) → a ≡ p → b ≡ q → c ≡ r → (let x : Name × Name × Form = (a, b, c) in x) ≡ (p, q, r)
over_of a b c p q r e f g = cc (e, f, g)

gives_over : (first : Shown) (var group : Name) (held : Form) → Returns (bare_form held) (worded held) (measured held) → (n : ℕ) (rest : List Shown) → (measured held).levels + 1 ≤ n
    → Gives bare_over (bare_name var, bare_name group, bare_form held) (spec.over_group n (inside n)) (group_words first var group (worded held).words rest) rest
unfolding spec.over_group inside
gives_over first var group held r zero rest e = absurd (omega arith)
gives_over first var group held r (suc n) rest e =
    gives_behind first _ (gives_then (gives_name var) (λ v p. gives_then (gives_expect in_word) (λ _ _. gives_then (gives_name group) (λ g q. gives_then (gives_expect open_brace) (λ _ _.
    gives_then (r.whole n (close_brace ∷ rest) (omega arith) (stops_brace rest)) (λ x t. gives_then (gives_expect close_brace) (λ _ _.
    gives_pure (over_of (bare_name v) (bare_name g) (bare_form x) (bare_name var) (bare_name group) (bare_form held) p q t))))))))

layer_all : (var group : Name) (held : Held) → Layer (Form-F.All var group held.0)
unfolding same_kind
layer_all var group held h =
    let both = of_both (is_name var && is_name group) (is_written held.0) h in
    let r = held.1 both.1 in
    returns_3 _ _ _ (λ rest. omega (arith, r.grows (close_brace ∷ rest))) (λ n rest e. in_atom n (word k.All _) refl
    (gives_map (λ (x : Name × Name × Form). forms.All x.0 x.1 x.2) (gives_over (word k.All _) var group held.0 r n rest e) (λ x q.
    bared (Form-F.All x.0 x.1 x.2) (forms.All x.0 x.1 x.2) (forms.rolls-All x.0 x.1 x.2) ∙ ap (λ (y : Name × Name × Form). forms.All y.0 y.1 y.2) q)))

layer_some : (var group : Name) (held : Held) → Layer (Form-F.Some var group held.0)
unfolding same_kind
layer_some var group held h =
    let both = of_both (is_name var && is_name group) (is_written held.0) h in
    let r = held.1 both.1 in
    returns_3 _ _ _ (λ rest. omega (arith, r.grows (close_brace ∷ rest))) (λ n rest e. in_atom n (word k.Some _) refl
    (gives_map (λ (x : Name × Name × Form). forms.Some x.0 x.1 x.2) (gives_over (word k.Some _) var group held.0 r n rest e) (λ x q.
    bared (Form-F.Some x.0 x.1 x.2) (forms.Some x.0 x.1 x.2) (forms.rolls-Some x.0 x.1 x.2) ∙ ap (λ (y : Name × Name × Form). forms.Some y.0 y.1 y.2) q)))

stops_else : (rest : List Shown) → Stops (else_word ∷ rest)
unfolding same_kind
stops_else rest = record { no_and = record { apart = refl }; no_or = record { apart = refl }; no_implies = record { apart = refl } }

stops_end : (rest : List Shown) → Stops (end_word ∷ rest)
unfolding same_kind
stops_end rest = record { no_and = record { apart = refl }; no_or = record { apart = refl }; no_implies = record { apart = refl } }

abbrev bare_bound : Name × (Side × Name) → Name × (Side × Name)
bare_bound x = (bare_name x.0, bare_from x.1)

bound_of : (a b : Name) (p q : Side × Name) → a ≡ b → p ≡ q → (let x : Name × (Side × Name) = (a, p) in x) ≡ (b, q)
bound_of a b p q e f = cc (e, f)

gives_bound : (var : Name) (side : Side) (of : Name) (n : ℕ) (rest : List Shown)
    → Gives bare_bound (bare_name var, (side, bare_name of)) (spec.bound (suc n))
    (if_word ∷ word k.Name var.word ∷ equal ∷ route_words side of (then_word ∷ rest)) rest
unfolding spec.bound
gives_bound var side of n rest =
    gives_behind if_word _ (gives_then (gives_name var) (λ v p. gives_then (gives_expect equal) (λ _ _. gives_then (gives_route side of) (λ f q.
    gives_then (gives_expect then_word) (λ _ _. gives_pure (bound_of (bare_name v) (bare_name var) (bare_from f) (side, bare_name of) p q))))))

abbrev bare_both : Form × Form → Form × Form
bare_both x = (bare_form x.0, bare_form x.1)

pair_of : (a b c d : Form) → a ≡ c → b ≡ d → (let x : Form × Form = (a, b) in x) ≡ (c, d)
pair_of a b c d e f = cc (e, f)

gives_branches : (yes_ no_ : Form) → Returns (bare_form yes_) (worded yes_) (measured yes_) → Returns (bare_form no_) (worded no_) (measured no_) → (n : ℕ) (rest : List Shown)
    → (measured yes_).levels ≤ n → (measured no_).levels ≤ n
    → Gives bare_both (bare_form yes_, bare_form no_) (spec.branches (inside (suc n)))
    ((worded yes_).words (else_word ∷ (worded no_).words (end_word ∷ rest))) rest
unfolding spec.branches inside
gives_branches yes_ no_ y z n rest e f =
    gives_then (y.whole n (else_word ∷ (worded no_).words (end_word ∷ rest)) e (stops_else ((worded no_).words (end_word ∷ rest)))) (λ a p.
    gives_then (gives_expect else_word) (λ _ _. gives_then (z.whole n (end_word ∷ rest) f (stops_end rest)) (λ b q.
    gives_then (gives_expect end_word) (λ _ _. gives_pure (pair_of (bare_form a) (bare_form b) (bare_form yes_) (bare_form no_) p q)))))

if_of : (x y : Name × (Side × Name)) (p q : Form × Form) → x ≡ y → p ≡ q → forms.If x.0 x.1.0 x.1.1 p.0 p.1 ≡ forms.If y.0 y.1.0 y.1.1 q.0 q.1
if_of x y p q e f = ap (λ (z : Name × (Side × Name)). forms.If z.0 z.1.0 z.1.1 p.0 p.1) e ∙ ap (λ (z : Form × Form). forms.If y.0 y.1.0 y.1.1 z.0 z.1) f

layer_if : (var : Name) (side : Side) (of : Name) (yes_ no_ : Held) → Layer (Form-F.If var side of yes_.0 no_.0)
unfolding same_kind spec.conditional
layer_if var side of yes_ no_ h =
    let last = of_both (is_name var && is_name of && is_written yes_.0) (is_written no_.0) h in
    let more = of_both (is_name var && is_name of) (is_written yes_.0) last.0 in
    let y = yes_.1 more.1 in
    let z = no_.1 last.1 in
    returns_3 _ _ _ (λ rest. omega (arith, y.grows (else_word ∷ (worded no_.0).words (end_word ∷ rest)), z.grows (end_word ∷ rest))) (gives y z)
  where
    gives : Returns (bare_form yes_.0) (worded yes_.0) (measured yes_.0) → Returns (bare_form no_.0) (worded no_.0) (measured no_.0)
        → (n : ℕ) (rest : List Shown) → max (measured yes_.0).levels (measured no_.0).levels + 1 ≤ n
        → Gives bare_form (forms.If (bare_name var) side (bare_name of) (bare_form yes_.0) (bare_form no_.0)) (negation n (inside n))
        (if_words var side of (worded yes_.0).words (worded no_.0).words rest) rest
    gives y z zero rest e = absurd (omega arith)
    gives y z (suc n) rest e = in_atom (suc n) if_word refl (gives_then (gives_bound var side of n _) (λ head p.
        gives_then (gives_branches yes_.0 no_.0 y z n rest (omega arith) (omega arith)) (λ parts q.
        gives_pure (bared (Form-F.If head.0 head.1.0 head.1.1 parts.0 parts.1) (forms.If head.0 head.1.0 head.1.1 parts.0 parts.1) (forms.rolls-If head.0 head.1.0 head.1.1 parts.0 parts.1)
        ∙ if_of (bare_bound head) (bare_name var, (side, bare_name of)) (bare_both parts) (bare_form yes_.0, bare_form no_.0) p q))))

-- ---- chains

abbrev item : ℕ → Held → Item Form
item least held = record { words = words_within least (worded held.0); is = bare_form held.0 }

same_words : (least : ℕ) (xs : List Held) → words_of (map (item least) xs) ≡ map (words_within least) (map worded (map (λ e. e.0) xs))
same_words least [] = refl
same_words least (x ∷ xs) = ap (λ (ws : List Words). words_within least (worded x.0) ∷ ws) (same_words least xs)

same_values : (least : ℕ) (xs : List Held) → values_of (map (item least) xs) ≡ map bare_form (map (λ e. e.0) xs)
same_values least [] = refl
same_values least (x ∷ xs) = ap (λ (fs : List Form). bare_form x.0 ∷ fs) (same_values least xs)

-- each member is read where one stands
not_items : (n : ℕ) (xs : List Held) → list_all (λ (m : Bool). m) (map is_written (map (λ e. e.0) xs)) ≡ true → most_within 3 (map measured (map (λ e. e.0) xs)) ≤ n
    → AllByRecursion (IsItem bare_form (negation n (inside n)) (λ _. Unit {0})) (map (item 3) xs)
not_items n [] w e = tt
not_items n (x ∷ xs) w e =
    let both = of_both (is_written x.0) (list_all (λ (m : Bool). m) (map is_written (map (λ e. e.0) xs))) w in
    let r = x.1 both.0 in
    let one : levels_within 3 (measured x.0) ≤ n = left_of (levels_within 3 (measured x.0)) (most_within 3 (map measured (map (λ e. e.0) xs))) n e in
    let others : most_within 3 (map measured (map (λ e. e.0) xs)) ≤ n = right_of (levels_within 3 (measured x.0)) (most_within 3 (map measured (map (λ e. e.0) xs))) n e in
    (record { grows = grows_within 3 (worded x.0) r.grows; gives = λ rest fits. r.as_not n rest one }, not_items n xs both.1 others)
  where
    left_of : (a b n : ℕ) → max a b ≤ n → a ≤ n
    left_of a b n h = omega arith

    right_of : (a b n : ℕ) → max a b ≤ n → b ≤ n
    right_of a b n h = omega arith

and_items : (n : ℕ) (xs : List Held) → list_all (λ (m : Bool). m) (map is_written (map (λ e. e.0) xs)) ≡ true → most_within 2 (map measured (map (λ e. e.0) xs)) ≤ n
    → AllByRecursion (IsItem bare_form (conjunction n (inside n)) (IsApart k.And)) (map (item 2) xs)
and_items n [] w e = tt
and_items n (x ∷ xs) w e =
    let both = of_both (is_written x.0) (list_all (λ (m : Bool). m) (map is_written (map (λ e. e.0) xs))) w in
    let r = x.1 both.0 in
    let one : levels_within 2 (measured x.0) ≤ n = left_of (levels_within 2 (measured x.0)) (most_within 2 (map measured (map (λ e. e.0) xs))) n e in
    let others : most_within 2 (map measured (map (λ e. e.0) xs)) ≤ n = right_of (levels_within 2 (measured x.0)) (most_within 2 (map measured (map (λ e. e.0) xs))) n e in
    (record { grows = grows_within 2 (worded x.0) r.grows; gives = λ rest fits. r.as_and n rest one fits }, and_items n xs both.1 others)
  where
    left_of : (a b n : ℕ) → max a b ≤ n → a ≤ n
    left_of a b n h = omega arith

    right_of : (a b n : ℕ) → max a b ≤ n → b ≤ n
    right_of a b n h = omega arith

each_grows : {A : Type 0} (view : A → Form) (read : Parser A) (Fits : List Shown → Type 0) (xs : List (Item Form)) → AllByRecursion (IsItem view read Fits) xs
    → AllByRecursion (λ (w : Words). (rest : List Shown) → length rest ≤ length (w rest)) (words_of xs)
each_grows view read Fits [] all = tt
each_grows view read Fits (x ∷ xs) all = (all.0.grows, each_grows view read Fits xs all.1)

-- the words of members, as items and as they stand in a formula
conjunction_gives : (xs : List Held) → 2 ≤ length xs → list_all (λ (m : Bool). m) (map is_written (map (λ e. e.0) xs)) ≡ true → (n : ℕ) (rest : List Shown)
    → most_within 3 (map measured (map (λ e. e.0) xs)) ≤ n → IsApart k.And rest
    → Gives bare_form (forms.And (values_of (map (item 3) xs))) (conjunction n (inside n)) (joined and_word (words_of (map (item 3) xs)) rest) rest
unfolding conjunction
conjunction_gives [] two w n rest e apart = absurd (omega arith)
conjunction_gives (x ∷ []) two w n rest e apart = absurd (omega arith)
conjunction_gives (x ∷ y ∷ xs) two w n rest e apart =
    gives_chain bare_form (negation n (inside n)) (λ _. Unit {0}) and_word forms.And _ (item 3 x) (item 3 y) (map (item 3) xs) rest (not_items n (x ∷ y ∷ xs) w e) (λ more. tt) tt apart
    (λ found same. bared (Form-F.And found) (forms.And found) (forms.rolls-And found) ∙ ap (λ (fs : List Form). forms.And fs) same)

disjunction_gives : (xs : List Held) → 2 ≤ length xs → list_all (λ (m : Bool). m) (map is_written (map (λ e. e.0) xs)) ≡ true → (n : ℕ) (rest : List Shown)
    → most_within 2 (map measured (map (λ e. e.0) xs)) ≤ n → IsApart k.And rest → IsApart k.Or rest
    → Gives bare_form (forms.Or (values_of (map (item 2) xs))) (disjunction n (inside n)) (joined or_word (words_of (map (item 2) xs)) rest) rest
unfolding disjunction same_kind
disjunction_gives [] two w n rest e no_and no_or = absurd (omega arith)
disjunction_gives (x ∷ []) two w n rest e no_and no_or = absurd (omega arith)
disjunction_gives (x ∷ y ∷ xs) two w n rest e no_and no_or =
    gives_chain bare_form (conjunction n (inside n)) (IsApart k.And) or_word forms.Or _ (item 2 x) (item 2 y) (map (item 2) xs) rest (and_items n (x ∷ y ∷ xs) w e) (λ more. record { apart = refl }) no_and no_or
    (λ found same. bared (Form-F.Or found) (forms.Or found) (forms.rolls-Or found) ∙ ap (λ (fs : List Form). forms.Or fs) same)

two_of : (xs : List Held) → leb 2 (length (map is_written (map (λ e. e.0) xs))) ≡ true → 2 ≤ length xs
two_of xs h = omega (arith, leb-true _ _ h, length-map (map (λ (e : Held). e.0) xs) is_written, length-map xs (λ (e : Held). e.0))

layer_and : (xs : List Held) → Layer (Form-F.And (map (λ e. e.0) xs))
layer_and xs h =
    let forms_of = map (λ (e : Held). e.0) xs in
    let both = of_both (leb 2 (length (map is_written forms_of))) (list_all (λ (m : Bool). m) (map is_written forms_of)) h in
    let two : 2 ≤ length xs = two_of xs both.0 in
    let levels : ℕ = most_within 3 (map measured forms_of) in
    let all = not_items levels xs both.1 (omega arith) in
    let made : Returns (forms.And (values_of (map (item 3) xs))) (record { binds = 2; words = joined and_word (words_of (map (item 3) xs)) }) (record { binds = 2; levels = levels }) =
    returns_2 (forms.And (values_of (map (item 3) xs))) (joined and_word (words_of (map (item 3) xs))) levels
    (grows_joined and_word (words_of (map (item 3) xs)) (each_grows bare_form (negation levels (inside levels)) (λ _. Unit {0}) (map (item 3) xs) all)) (conjunction_gives xs two both.1) in
    subst (λ (ws : List Words). Returns (forms.And (map bare_form forms_of)) (record { binds = 2; words = joined and_word ws }) (record { binds = 2; levels = levels })) (same_words 3 xs)
    (subst (λ (fs : List Form). Returns (forms.And fs) (record { binds = 2; words = joined and_word (words_of (map (item 3) xs)) }) (record { binds = 2; levels = levels })) (same_values 3 xs) made)

layer_or : (xs : List Held) → Layer (Form-F.Or (map (λ e. e.0) xs))
layer_or xs h =
    let forms_of = map (λ (e : Held). e.0) xs in
    let both = of_both (leb 2 (length (map is_written forms_of))) (list_all (λ (m : Bool). m) (map is_written forms_of)) h in
    let two : 2 ≤ length xs = two_of xs both.0 in
    let levels : ℕ = most_within 2 (map measured forms_of) in
    let all = and_items levels xs both.1 (omega arith) in
    let made : Returns (forms.Or (values_of (map (item 2) xs))) (record { binds = 1; words = joined or_word (words_of (map (item 2) xs)) }) (record { binds = 1; levels = levels }) =
    returns_1 (forms.Or (values_of (map (item 2) xs))) (joined or_word (words_of (map (item 2) xs))) levels
    (grows_joined or_word (words_of (map (item 2) xs)) (each_grows bare_form (conjunction levels (inside levels)) (IsApart k.And) (map (item 2) xs) all)) (disjunction_gives xs two both.1) in
    subst (λ (ws : List Words). Returns (forms.Or (map bare_form forms_of)) (record { binds = 1; words = joined or_word ws }) (record { binds = 1; levels = levels })) (same_words 2 xs)
    (subst (λ (fs : List Form). Returns (forms.Or fs) (record { binds = 1; words = joined or_word (words_of (map (item 2) xs)) }) (record { binds = 1; levels = levels })) (same_values 2 xs) made)

layer_of : (y : Form-F (Such Rattle.nr_rule_syntax.specs.declared.tree.Form.TheBlock.the_family (Rattle.nr_rule_syntax.specs.declared.tree.Form.TheFolds.claims Holds) Rattle.nr_rule_syntax.specs.declared.tree.Form.TheBlock.member-Form)) → Layer (map-Form _ Form (λ e. e.0) y)
layer_of Form-F.True = layer_true
layer_of Form-F.False = layer_false
layer_of (Form-F.Not held) = layer_not held
layer_of (Form-F.And members) = layer_and members
layer_of (Form-F.Or members) = layer_or members
layer_of (Form-F.Implies left right) = layer_implies left right
layer_of (Form-F.All var group held) = layer_all var group held
layer_of (Form-F.Some var group held) = layer_some var group held
layer_of (Form-F.If var side of then_ else_) = layer_if var side of then_ else_
layer_of (Form-F.Stands side of) = layer_stands side of
layer_of (Form-F.Has var community) = layer_has var community
layer_of (Form-F.Crosses var term) = layer_crosses var term
layer_of (Form-F.Is left right) = layer_is left right
layer_of (Form-F.PrefixIn set) = layer_prefix_in set
layer_of (Form-F.Compare left op right) = layer_compare left op right

-- from the layer to the formula
from_layer : (x : Form-F Form) → Layer x → Holds (roll-Form x)
from_layer x layer w =
    let r = layer (sym (fold-roll-Form Bool written_step x) ∙ w) in
    subst (λ (v : Form). Returns v (worded (roll-Form x)) (measured (roll-Form x))) (sym (fold-roll-Form Form bare_step x))
    (subst (λ (ws : Worded). Returns (bare_step (map-Form Form Form bare_form x)) ws (measured (roll-Form x))) (sym (fold-roll-Form Worded worded_step x))
    (subst (λ (m : Measured). Returns (bare_step (map-Form Form Form bare_form x)) (worded_step (map-Form Form Worded worded x)) m) (sym (fold-roll-Form Measured measured_step x)) r))

-- the words of a formula are read as that formula
pub form_returns : (form : Form) → Holds form
form_returns = ind-Form Holds (λ x y is. subst (λ (z : Form-F Form). Holds (roll-Form z)) is (from_layer _ (layer_of y)))
