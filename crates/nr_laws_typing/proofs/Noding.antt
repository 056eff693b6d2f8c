-- The tree of each construct, from how the construct is typed.
use Rattle.std.proofs.Common.{◌≡◌, ℕ, zero, suc, ◌+◌, ◌<◌, cond, nat_lt, Bool, true, false, ◌&&◌, not, List, [], ◌∷◌, ◌++◌, map, length, position, get_or, slice_get, Option, Some, None, Result, Ok, Err, refl, ap, sym, subst, ◌∙◌, arith}
use Rattle.std.specs.List.{position_or_len}
use Rattle.std.specs.Str.{bytes_eq}
use Rattle.std.proofs.lemmas.Slice.Eq.{bytes_eq-Decides}
use Rattle.std.proofs.lemmas.Bool.Decides.{nat_tests}
use Rattle.std.proofs.lemmas.List.Quantifiers.{position-Some}
use Rattle.nr_prefix.specs.declared.set.Pattern.{Pattern}
use Rattle.nr_spec_wire.specs.Reading.{◌>>=◌, wants}
use Rattle.nr_rule_syntax.specs.declared.tree.Name.{Name}
use Rattle.nr_rule_syntax.specs.declared.tree.Side.{Side}
use Rattle.nr_rule_syntax.specs.declared.tree.Cmp.{Cmp}
use Rattle.nr_rule_syntax.specs.declared.tree.Term.{Term}
use Rattle.nr_rule_syntax.specs.declared.tree.Term.TheVariants as terms
use Rattle.nr_rule_syntax.specs.declared.tree.Form.{Form, map-Form, roll-Form, fold-roll-Form}
use Rattle.nr_rule_syntax.specs.declared.tree.Form.TheOpen.{Form-F}
use Rattle.nr_rule_syntax.specs.declared.tree.Form.TheVariants as f
use Rattle.nr_rule_syntax.specs.declared.tree.Form.TheVariants.{rolls-True, rolls-False, rolls-Not, rolls-And, rolls-Or, rolls-Implies, rolls-All, rolls-Some, rolls-If, rolls-Stands, rolls-Has, rolls-Crosses, rolls-Is, rolls-PrefixIn, rolls-Compare}
use Rattle.nr_spec_typing.specs.declared.name.Named.{Named}
use Rattle.nr_spec_typing.specs.declared.name.Named.TheVariants as named
use Rattle.nr_spec_typing.specs.declared.name.Declared.{Declared}
use Rattle.nr_spec_typing.specs.declared.name.Bound.{Bound}
use Rattle.nr_spec_typing.specs.declared.name.Bound.TheVariants.{Neighbour, Route}
use Rattle.nr_spec_typing.specs.declared.name.Variable.{Variable}
use Rattle.nr_spec_typing.specs.declared.tree.Who.{Who}
use Rattle.nr_spec_typing.specs.declared.tree.Who.TheVariants as whos
use Rattle.nr_spec_typing.specs.declared.tree.Value.{Value}
use Rattle.nr_spec_typing.specs.declared.tree.Value.TheVariants as values
use Rattle.nr_spec_typing.specs.declared.tree.Typing.{Typing}
use Rattle.nr_spec_typing.specs.declared.tree.Typing.TheVariants as t
use Rattle.nr_spec_typing.specs.Steps.{◌<$>◌, all_of}
use Rattle.nr_spec_typing.specs.Scopes.{Scope, meaning, same_bound, is_called, variable, who_by, who, route_by, route, group_by, group, set_by, set, is_fresh, new_variable, bind}
use Rattle.nr_spec_typing.specs.Forms.{Typer, typed_step, typed, each, value, implies, over_group, conditional, crosses, is_same, compared}
use Rattle.nr_spec_typing.proofs.Fitting.{mapped, chained, passed, both, left, right}
use Rattle.nr_laws_typing.specs.Nodes.{Binds, Declares, IsNeighbour, Asks, IsTerm, IsTree, AreTrees, inside, number, IsOver, IsIf, Nodes}

ok_same : {A : Type 0} (x y : A) → wants true 0 x ≡ Ok y → x ≡ y
ok_same x y h = cc

-- ---- variables

at_get : {A : Type 0} (xs : List A) (i : ℕ) (d : A) → i < length xs → slice_get xs i ≡ Some (get_or xs i d)
at_get [] i d lt = absurd (omega arith)
at_get (x ∷ xs) zero d lt = refl
at_get (x ∷ xs) (suc i) d lt = at_get xs i d (omega arith)

one_bound : (found bound : Bound) → same_bound found bound ≡ true → found ≡ bound
one_bound Neighbour Neighbour h = refl
one_bound Neighbour Route h = cc
one_bound Route Neighbour h = cc
one_bound Route Route h = refl

bound_one : (found bound : Bound) → found ≡ bound → same_bound found bound ≡ true
bound_one Neighbour Neighbour h = refl
bound_one Neighbour Route h = cc
bound_one Route Neighbour h = cc
bound_one Route Route h = refl

any_variable : Variable
any_variable = record { word = []; bound = Route }

binds : (s : Scope) (bound : Bound) (name : Name) (v : ℕ) → variable bound s.variables name.word ≡ Some v → Binds s bound name v
binds s bound name v h =
    let p = position-Some (is_called bound name.word) s.variables v any_variable h in
    let x : Variable = get_or s.variables v any_variable in (
      x,
      at_get s.variables v any_variable p.0,
      (bytes_eq-Decides x.word name.word).0 (left (bytes_eq x.word name.word) (same_bound x.bound bound) p.1),
      one_bound x.bound bound (right (bytes_eq x.word name.word) (same_bound x.bound bound) p.1),
    )

at_once : (b : Bool) (n len : ℕ) → b ≡ true → cond (not b) (1 + n) 0 < suc len
at_once true n len h = omega arith
at_once false n len h = cc

later : (b : Bool) (n len : ℕ) → n < len → cond (not b) (1 + n) 0 < suc len
later true n len h = omega arith
later false n len h = omega arith

early : {A : Type 0} (p : A → Bool) (xs : List A) (i : ℕ) (x : A) → slice_get xs i ≡ Some x → p x ≡ true → position_or_len p xs < length xs
early p [] i x g h = cc
early p (y ∷ xs) zero x g h = let e : y ≡ x = cc in at_once (p y) (position_or_len p xs) (length xs) (ap p e ∙ h)
early p (y ∷ xs) (suc i) x g h = later (p y) (position_or_len p xs) (length xs) (early p xs i x g h)

not_there : (n len : ℕ) (b : Bool) → nat_lt n len ≡ b → cond b (Some n) None ≡ None → n < len → ⊥
not_there n len true e h lt = cc
not_there n len false e h lt = grind (arith, nat_tests)

none_binds : (s : Scope) (bound : Bound) (name : Name) → variable bound s.variables name.word ≡ None → (v : ℕ) → Binds s bound name v → ⊥
none_binds s bound name h v x =
    let p = is_called bound name.word in
    not_there (position_or_len p s.variables) (length s.variables) (nat_lt (position_or_len p s.variables) (length s.variables)) refl h
    (early p s.variables v x.0 x.1 (both (bytes_eq x.0.word name.word) (same_bound x.0.bound bound) ((bytes_eq-Decides x.0.word name.word).1 x.2) (bound_one x.0.bound bound x.3)))

-- ---- declared names

abbrev Listed : List Declared → List ℕ → Named → Type 0
Listed names word means = (i : ℕ) × (d : Declared) × (slice_get names i ≡ Some d) × (d.word ≡ word) × (d.means ≡ means)

listed_step : (same : Bool) (d : Declared) (names : List Declared) (word : List ℕ) (m : Named) → bytes_eq d.word word ≡ same → (meaning names word ≡ Some m → Listed names word m)
    → cond same (Some d.means) (meaning names word) ≡ Some m → Listed (d ∷ names) word m
listed_step true d names word m e more h = (0, d, refl, (bytes_eq-Decides d.word word).0 e, cc)
listed_step false d names word m e more h = let x = more h in (suc x.0, x.1, x.2, x.3, x.4)

listed : (names : List Declared) (word : List ℕ) (m : Named) → meaning names word ≡ Some m → Listed names word m
listed [] word m h = cc
listed (d ∷ names) word m h = listed_step (bytes_eq d.word word) d names word m refl (listed names word m) h

neighbour_by : (s : Scope) (name : Name) (place : ℕ) (found : Option ℕ) (m : Option Named) (w : Who) → variable Neighbour s.variables name.word ≡ found → meaning s.names name.word ≡ m
    → who_by place found m ≡ Ok w → IsNeighbour s name w
neighbour_by s name place (Some v) m w e g h = subst (IsNeighbour s name) (ok_same (whos.Var v) w h) (binds s Neighbour name v e)
neighbour_by s name place None None w e g h = cc
neighbour_by s name place None (Some (named.Neighbour n)) w e g h =
    subst (IsNeighbour s name) (ok_same (whos.Named n) w h) (none_binds s Neighbour name e, listed s.names name.word (named.Neighbour n) g)
neighbour_by s name place None (Some (named.Group members)) w e g h = cc
neighbour_by s name place None (Some (named.Define patterns)) w e g h = cc
neighbour_by s name place None (Some named.Promise) w e g h = cc

is_neighbour : (s : Scope) (name : Name) (w : Who) → who s name ≡ Ok w → IsNeighbour s name w
unfolding who
is_neighbour s name w h = neighbour_by s name name.span.from (variable Neighbour s.variables name.word) (meaning s.names name.word) w refl refl h

route_found : (place v : ℕ) (found : Option ℕ) → route_by place found ≡ Ok v → found ≡ Some v
route_found place v (Some n) h = cc
route_found place v None h = cc

is_route : (s : Scope) (name : Name) (v : ℕ) → route s name ≡ Ok v → Binds s Route name v
unfolding route
is_route s name v h = binds s Route name v (route_found name.span.from v (variable Route s.variables name.word) h)

group_found : (place : ℕ) (m : Option Named) (members : List ℕ) → group_by place m ≡ Ok members → m ≡ Some (named.Group members)
group_found place None members h = cc
group_found place (Some (named.Neighbour n)) members h = cc
group_found place (Some (named.Group found)) members h = ap (λ l. let o : Option Named = Some (named.Group l) in o) (ok_same found members h)
group_found place (Some (named.Define patterns)) members h = cc
group_found place (Some named.Promise) members h = cc

is_group : (s : Scope) (name : Name) (members : List ℕ) → group s name ≡ Ok members → Declares s name (named.Group members)
unfolding group
is_group s name members h = listed s.names name.word (named.Group members) (group_found name.span.from (meaning s.names name.word) members h)

set_found : (place : ℕ) (m : Option Named) (patterns : List Pattern) → set_by place m ≡ Ok patterns → m ≡ Some (named.Define patterns)
set_found place None patterns h = cc
set_found place (Some (named.Neighbour n)) patterns h = cc
set_found place (Some (named.Group members)) patterns h = cc
set_found place (Some (named.Define found)) patterns h = ap (λ l. let o : Option Named = Some (named.Define l) in o) (ok_same found patterns h)
set_found place (Some named.Promise) patterns h = cc

is_set : (s : Scope) (name : Name) (patterns : List Pattern) → set s name ≡ Ok patterns → Declares s name (named.Define patterns)
unfolding set
is_set s name patterns h = listed s.names name.word (named.Define patterns) (set_found name.span.from (meaning s.names name.word) patterns h)

-- ---- terms

asks : (s : Scope) (name : Name) (question : ℕ → Value) (v : Value) → question <$> route s name ≡ Ok v → Asks s name question v
asks s name question v h =
    let p = mapped question (route s name) v h in
    (p.0, is_route s name p.0 p.1, sym p.2)

is_term : (s : Scope) (term : Term) (v : Value) → value s term ≡ Ok v → IsTerm s term v
is_term s (terms.Number n) v h = sym (ok_same (values.Number n.value) v h)
is_term s terms.Bits v h = sym (ok_same values.Bits v h)
is_term s (terms.Length of) v h = asks s of (λ r. values.Length r) v h
is_term s (terms.Med of) v h = asks s of (λ r. values.Med r) v h
is_term s (terms.Pref of) v h = asks s of (λ r. values.Pref r) v h
is_term s (terms.Origin of) v h = asks s of (λ r. values.Origin r) v h
is_term s (terms.First of) v h = asks s of (λ r. values.First r) v h
is_term s (terms.Last of) v h = asks s of (λ r. values.Last r) v h
is_term s (terms.Hop of) v h = asks s of (λ r. values.Hop r) v h
is_term s (terms.Asn of) v h =
    let p = mapped (λ w. values.Asn w) (who s of) v h in
    (p.0, is_neighbour s of p.0 p.1, sym p.2)

-- ---- formulas

abbrev step : Form-F Form → Typer
step layer = typed_step (map-Form Form Typer typed layer)

said : (s : Scope) (layer : Form-F Form) (form : Form) (tree : Typing) → roll-Form layer ≡ form → IsTree s form tree → step layer s ≡ Ok tree
said s layer form tree e h = ap (λ (typer : Typer). typer s) (sym (fold-roll-Form Typer typed_step layer)) ∙ ap (λ form. typed form s) e ∙ h

are_trees : (s : Scope) (forms : List Form) (trees : List Typing) → each (map typed forms) s ≡ Ok trees → AreTrees s forms trees
unfolding all_of
are_trees s [] trees h = let none : List Typing = [] in subst (AreTrees s []) (ok_same none trees h) tt
are_trees s (form ∷ forms) trees h =
    let p = chained (λ first. each (map typed forms) s >>= (λ others. Ok (first ∷ others))) (typed form s) trees h in
    let q = chained (λ others. Ok (p.0 ∷ others)) (each (map typed forms) s) trees p.2 in
    subst (AreTrees s (form ∷ forms)) (ok_same (p.0 ∷ q.0) trees q.2) (p.1, are_trees s forms q.0 q.1)

new_same : (s : Scope) (name called : Name) → new_variable s name ≡ Ok called → called ≡ name
unfolding new_variable
new_same s name called h = sym (passed (is_fresh s name.word) name.span.from name called h).1

over_parts : (s : Scope) (var among : Name) (form : Form) (over : List ℕ → Typing → Typing) (tree : Typing)
    → (λ (x : List ℕ × Typing). over x.0 x.1) <$> over_group var among (typed form) s ≡ Ok tree → IsOver s var among form over tree
unfolding over_group
over_parts s var among form over tree h =
    let o = mapped (λ (x : List ℕ × Typing). over x.0 x.1) (over_group var among (typed form) s) tree h in
    let p = chained (λ called. group s among >>= (λ members. typed form (bind s Neighbour called) >>= (λ held. Ok (members, held)))) (new_variable s var) o.0 o.1 in
    let q = chained (λ members. typed form (bind s Neighbour p.0) >>= (λ held. Ok (members, held))) (group s among) o.0 p.2 in
    let r = chained (λ held. Ok (q.0, held)) (typed form (bind s Neighbour p.0)) o.0 q.2 in
    let pair : List ℕ × Typing = (q.0, r.0) in
    let e : pair ≡ o.0 = ok_same pair o.0 r.2 in (
      q.0,
      r.0,
      is_group s among q.0 q.1,
      subst (λ name. IsTree (inside s Neighbour name) form r.0) (new_same s var p.0 p.1) r.1,
      sym o.2 ∙ ap (λ (x : List ℕ × Typing). over x.0 x.1) (sym e),
    )

if_parts : (s : Scope) (var : Name) (side : Side) (of : Name) (yes_ no_ : Form) (tree : Typing) → conditional var side of (typed yes_) (typed no_) s ≡ Ok tree → IsIf s var side of yes_ no_ tree
unfolding conditional
if_parts s var side of yes_ no_ tree h =
    let p = chained (λ called. who s of >>= (λ from. typed yes_ (bind s Route called) >>= (λ then_. typed no_ s >>= (λ else_. Ok (t.If (length s.variables) side from then_ else_))))) (new_variable s var) tree h in
    let q = chained (λ from. typed yes_ (bind s Route p.0) >>= (λ then_. typed no_ s >>= (λ else_. Ok (t.If (length s.variables) side from then_ else_)))) (who s of) tree p.2 in
    let r = chained (λ then_. typed no_ s >>= (λ else_. Ok (t.If (length s.variables) side q.0 then_ else_))) (typed yes_ (bind s Route p.0)) tree q.2 in
    let u = chained (λ else_. Ok (t.If (length s.variables) side q.0 r.0 else_)) (typed no_ s) tree r.2 in (
      q.0,
      r.0,
      u.0,
      is_neighbour s of q.0 q.1,
      subst (λ name. IsTree (inside s Route name) yes_ r.0) (new_same s var p.0 p.1) r.1,
      u.1,
      sym (ok_same (t.If (length s.variables) side q.0 r.0 u.0) tree u.2),
    )

implies_parts : (s : Scope) (one other : Form) (tree : Typing) → implies (typed one) (typed other) s ≡ Ok tree
    → (if_ : Typing) × (then_ : Typing) × IsTree s one if_ × IsTree s other then_ × (tree ≡ t.Implies if_ then_)
unfolding implies
implies_parts s one other tree h =
    let p = chained (λ if_. typed other s >>= (λ then_. Ok (t.Implies if_ then_))) (typed one s) tree h in
    let q = chained (λ then_. Ok (t.Implies p.0 then_)) (typed other s) tree p.2 in
    (p.0, q.0, p.1, q.1, sym (ok_same (t.Implies p.0 q.0) tree q.2))

crosses_parts : (s : Scope) (var : Name) (term : Term) (tree : Typing) → crosses var term s ≡ Ok tree
    → (r : ℕ) × (v : Value) × Binds s Route var r × IsTerm s term v × (tree ≡ t.Crosses r v)
unfolding crosses
crosses_parts s var term tree h =
    let p = chained (λ n. value s term >>= (λ x. Ok (t.Crosses n x))) (route s var) tree h in
    let q = chained (λ x. Ok (t.Crosses p.0 x)) (value s term) tree p.2 in
    (p.0, q.0, is_route s var p.0 p.1, is_term s term q.0 q.1, sym (ok_same (t.Crosses p.0 q.0) tree q.2))

is_parts : (s : Scope) (one other : Name) (tree : Typing) → is_same one other s ≡ Ok tree
    → (n : Who) × (m : Who) × IsNeighbour s one n × IsNeighbour s other m × (tree ≡ t.Is n m)
unfolding is_same
is_parts s one other tree h =
    let p = chained (λ n. who s other >>= (λ m. Ok (t.Is n m))) (who s one) tree h in
    let q = chained (λ m. Ok (t.Is p.0 m)) (who s other) tree p.2 in
    (p.0, q.0, is_neighbour s one p.0 p.1, is_neighbour s other q.0 q.1, sym (ok_same (t.Is p.0 q.0) tree q.2))

compare_parts : (s : Scope) (one : Term) (op : Cmp) (other : Term) (tree : Typing) → compared one op other s ≡ Ok tree
    → (n : Value) × (m : Value) × IsTerm s one n × IsTerm s other m × (tree ≡ t.Compare n op m)
unfolding compared
compare_parts s one op other tree h =
    let p = chained (λ n. value s other >>= (λ m. Ok (t.Compare n op m))) (value s one) tree h in
    let q = chained (λ m. Ok (t.Compare p.0 op m)) (value s other) tree p.2 in
    (p.0, q.0, is_term s one p.0 p.1, is_term s other q.0 q.1, sym (ok_same (t.Compare p.0 op q.0) tree q.2))

pub nodes : (s : Scope) (tree : Typing) → Nodes s tree
nodes s tree = record {
  true_ = λ h. sym (ok_same t.True tree (said s Form-F.True f.True tree rolls-True h));
  false_ = λ h. sym (ok_same t.False tree (said s Form-F.False f.False tree rolls-False h));
  not_ = λ form h.
      let p = mapped (λ x. t.Not x) (typed form s) tree (said s (Form-F.Not form) (f.Not form) tree (rolls-Not form) h) in
      (p.0, p.1, sym p.2);
  and_ = λ forms h.
      let p = mapped (λ x. t.And x) (each (map typed forms) s) tree (said s (Form-F.And forms) (f.And forms) tree (rolls-And forms) h) in
      (p.0, are_trees s forms p.0 p.1, sym p.2);
  or_ = λ forms h.
      let p = mapped (λ x. t.Or x) (each (map typed forms) s) tree (said s (Form-F.Or forms) (f.Or forms) tree (rolls-Or forms) h) in
      (p.0, are_trees s forms p.0 p.1, sym p.2);
  implies_ = λ one other h. implies_parts s one other tree (said s (Form-F.Implies one other) (f.Implies one other) tree (rolls-Implies one other) h);
  all_ = λ var among form h.
      over_parts s var among form (λ group held. t.All (number s) group held) tree (said s (Form-F.All var among form) (f.All var among form) tree (rolls-All var among form) h);
  some_ = λ var among form h.
      over_parts s var among form (λ group held. t.Some (number s) group held) tree (said s (Form-F.Some var among form) (f.Some var among form) tree (rolls-Some var among form) h);
  if_ = λ var side of yes_ no_ h. if_parts s var side of yes_ no_ tree (said s (Form-F.If var side of yes_ no_) (f.If var side of yes_ no_) tree (rolls-If var side of yes_ no_) h);
  stands = λ side of h.
      let p = mapped (λ x. t.Stands side x) (who s of) tree (said s (Form-F.Stands side of) (f.Stands side of) tree (rolls-Stands side of) h) in
      (p.0, is_neighbour s of p.0 p.1, sym p.2);
  has = λ var community h.
      let p = mapped (λ n. t.Has n community) (route s var) tree (said s (Form-F.Has var community) (f.Has var community) tree (rolls-Has var community) h) in
      (p.0, is_route s var p.0 p.1, sym p.2);
  crosses = λ var term h. crosses_parts s var term tree (said s (Form-F.Crosses var term) (f.Crosses var term) tree (rolls-Crosses var term) h);
  is_ = λ one other h. is_parts s one other tree (said s (Form-F.Is one other) (f.Is one other) tree (rolls-Is one other) h);
  prefix_in = λ name h.
      let p = mapped (λ x. t.PrefixIn x) (set s name) tree (said s (Form-F.PrefixIn name) (f.PrefixIn name) tree (rolls-PrefixIn name) h) in
      (p.0, is_set s name p.0 p.1, sym p.2);
  compare = λ one op other h. compare_parts s one op other tree (said s (Form-F.Compare one op other) (f.Compare one op other) tree (rolls-Compare one op other) h);
}
