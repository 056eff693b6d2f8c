-- A typed formula fits its place, and nests as deep as the formula of the text.
use Rattle.std.proofs.Common.{◌≡◌, ℕ, zero, suc, ◌+◌, ◌<◌, ◌≤◌, max, Bool, true, false, cond, ◌&&◌, ◌==◌, List, [], ◌∷◌, ◌++◌, map, length, get_or, nat_lt, Option, Some, None, Result, Ok, Err, refl, ap, sym, subst, ◌∙◌, arith}
use Rattle.std.proofs.lemmas.List.{map-append, length-append}
use Rattle.std.specs.List.{list_all}
use Rattle.std.specs.Str.{bytes_eq}
use Rattle.std.proofs.lemmas.Bool.Decides.{nat_tests}
use Rattle.std.proofs.lemmas.List.Quantifiers.{position-Some}
use Rattle.nr_prefix.specs.declared.set.Pattern.{Pattern}
use Rattle.nr_spec_wire.specs.Reading.{◌>>=◌, wants}
use Rattle.nr_rule_syntax.specs.declared.tree.Name.{Name}
use Rattle.nr_rule_syntax.specs.declared.tree.Side.{Side}
use Rattle.nr_rule_syntax.specs.declared.tree.Cmp.{Cmp}
use Rattle.nr_rule_syntax.specs.declared.tree.Term.{Term}
use Rattle.nr_rule_syntax.specs.declared.tree.Term.TheVariants as terms
use Rattle.nr_rule_syntax.specs.declared.tree.Form.{Form, map-Form, roll-Form, fold-roll-Form, ind-Form}
use Rattle.nr_rule_syntax.specs.declared.tree.Form.TheOpen.{Form-F}
use Rattle.nr_rule_syntax.specs.Nesting.{Measured, levels_within, most_within, flat}
use Rattle.nr_rule_syntax.specs.Nesting as text
use Rattle.nr_spec_typing.specs.declared.name.Named.{Named}
use Rattle.nr_spec_typing.specs.declared.name.Named.TheVariants as named
use Rattle.nr_spec_typing.specs.declared.name.Declared.{Declared}
use Rattle.nr_spec_typing.specs.declared.name.Bound.{Bound}
use Rattle.nr_spec_typing.specs.declared.name.Bound.TheVariants.{Neighbour, Route}
use Rattle.nr_spec_typing.specs.declared.name.Variable.{Variable}
use Rattle.nr_spec_typing.specs.declared.tree.Who.{Who}
use Rattle.nr_spec_typing.specs.declared.tree.Who.TheVariants as whos
use Rattle.nr_spec_typing.specs.declared.tree.Value.{Value}
use Rattle.nr_spec_typing.specs.declared.tree.Value.TheVariants as values
use Rattle.nr_spec_typing.specs.declared.tree.Typing.{Typing, map-Typing, roll-Typing, fold-roll-Typing}
use Rattle.nr_spec_typing.specs.declared.tree.Typing.TheOpen.{Typing-F}
use Rattle.nr_spec_typing.specs.declared.tree.Typing.TheVariants.{rolls-True, rolls-False, rolls-Not, rolls-And, rolls-Or, rolls-Implies, rolls-All, rolls-Some, rolls-If, rolls-Stands, rolls-Has, rolls-Crosses, rolls-Is, rolls-PrefixIn, rolls-Compare}
use Rattle.nr_spec_typing.specs.declared.tree.Typing.TheVariants as typings
use Rattle.nr_spec_typing.specs.Steps.{◌<$>◌, all_of}
use Rattle.nr_spec_typing.specs.Scopes.{Scope, meaning, same_bound, is_called, variable, who_by, who, route_by, route, group_by, group, set_by, set, new_variable, bind}
use Rattle.nr_spec_typing.specs.Forms.{Typer, typed_step, typed, each, value, implies, over_group, conditional, crosses, is_same, compared}
use Rattle.nr_spec_typing.specs.Guarantees.{is_variable, is_who, is_value, are_neighbours, is_pattern, is_next, Fitting, fits_step, fits, measured_step, measured}

-- ---- what was found, from what it was made of

pub mapped : {A B : Type 0} (f : A → B) (r : Result A ℕ) (y : B) → f <$> r ≡ Ok y → (x : A) × (r ≡ Ok x) × (f x ≡ y)
mapped f (Ok x) y h = (x, refl, cc)
mapped f (Err place) y h = cc

pub chained : {A B : Type 0} (f : A → Result B ℕ) (r : Result A ℕ) (y : B) → r >>= f ≡ Ok y → (x : A) × (r ≡ Ok x) × (f x ≡ Ok y)
chained f (Ok x) y h = (x, refl, h)
chained f (Err place) y h = cc

pub passed : {A : Type 0} (test : Bool) (place : ℕ) (x y : A) → wants test place x ≡ Ok y → (test ≡ true) × (x ≡ y)
passed true place x y h = (refl, cc)
passed false place x y h = cc

-- ---- tests

pub both : (a b : Bool) → a ≡ true → b ≡ true → a && b ≡ true
both true b h k = k
both false b h k = cc

pub left : (a b : Bool) → a && b ≡ true → a ≡ true
left true b h = refl
left false b h = cc

pub right : (a b : Bool) → a && b ≡ true → b ≡ true
right true b h = h
right false b h = cc

pub below : (n count : ℕ) → n < count → nat_lt n count ≡ true
below n count h = grind (arith, nat_tests)

next_fits : (n : ℕ) → n < 64 → (n == n) && nat_lt n 64 ≡ true
next_fits n h = grind (arith, nat_tests)

-- ---- names

abbrev pub kinds : List Variable → List Bound
kinds variables = map (λ v. v.bound) variables

-- a neighbour's number is below this, and so are those of a group; patterns are in their range
abbrev pub IsWithin : ℕ → Named → Type 0
IsWithin count (named.Neighbour n) = n < count
IsWithin count (named.Group members) = are_neighbours count members ≡ true
IsWithin count (named.Define patterns) = list_all is_pattern patterns ≡ true
IsWithin count named.Promise = Unit {0}

abbrev pub AreWithin : ℕ → List Declared → Type 0
AreWithin count [] = Unit {0}
AreWithin count (d ∷ names) = IsWithin count d.means × AreWithin count names

within_step : (count : ℕ) (same : Bool) (d m : Named) (more : Option Named) → IsWithin count d → (more ≡ Some m → IsWithin count m) → cond same (Some d) more ≡ Some m → IsWithin count m
within_step count true d m more w rest h = let e : d ≡ m = cc in subst (λ n. IsWithin count n) e w
within_step count false d m more w rest h = rest h

pub meaning_within : (count : ℕ) (names : List Declared) (word : List ℕ) (m : Named) → AreWithin count names → meaning names word ≡ Some m → IsWithin count m
meaning_within count [] word m w h = cc
meaning_within count (d ∷ names) word m w h =
    within_step count (bytes_eq d.word word) d.means m (meaning names word) w.0 (λ e. meaning_within count names word m w.1 e) h

kind_at : (bound : Bound) (variables : List Variable) (n : ℕ) (d : Variable) → n < length variables → same_bound (get_or variables n d).bound bound ≡ true
    → is_variable bound (kinds variables) n ≡ true
kind_at bound [] n d lt h = absurd (omega arith)
kind_at bound (v ∷ variables) zero d lt h = h
kind_at bound (v ∷ variables) (suc n) d lt h = kind_at bound variables n d (omega arith) h

any_variable : Variable
any_variable = record { word = []; bound = Route }

variable_fits : (bound : Bound) (variables : List Variable) (word : List ℕ) (n : ℕ) → variable bound variables word ≡ Some n → is_variable bound (kinds variables) n ≡ true
variable_fits bound variables word n h =
    let p = position-Some (is_called bound word) variables n any_variable h in
    kind_at bound variables n any_variable p.0 (right (bytes_eq (get_or variables n any_variable).word word) (same_bound (get_or variables n any_variable).bound bound) p.1)

who_fits_by : (count : ℕ) (place : ℕ) (variables : List Variable) (found : Option ℕ) (m : Option Named) (w : Who)
    → ((n : ℕ) → found ≡ Some n → is_variable Neighbour (kinds variables) n ≡ true)
    → ((x : Named) → m ≡ Some x → IsWithin count x)
    → who_by place found m ≡ Ok w → is_who count (kinds variables) w ≡ true
who_fits_by count place variables (Some n) m w v d h = let e : whos.Var n ≡ w = cc in subst (λ w. is_who count (kinds variables) w ≡ true) e (v n refl)
who_fits_by count place variables None None w v d h = cc
who_fits_by count place variables None (Some (named.Neighbour n)) w v d h =
    let e : whos.Named n ≡ w = cc in subst (λ w. is_who count (kinds variables) w ≡ true) e (below n count (d (named.Neighbour n) refl))
who_fits_by count place variables None (Some (named.Group members)) w v d h = cc
who_fits_by count place variables None (Some (named.Define patterns)) w v d h = cc
who_fits_by count place variables None (Some named.Promise) w v d h = cc

who_fits : (count : ℕ) (s : Scope) (name : Name) (w : Who) → AreWithin count s.names → who s name ≡ Ok w → is_who count (kinds s.variables) w ≡ true
unfolding who
who_fits count s name w within h =
    who_fits_by count name.span.from s.variables (variable Neighbour s.variables name.word) (meaning s.names name.word) w
    (λ n e. variable_fits Neighbour s.variables name.word n e)
    (λ x e. meaning_within count s.names name.word x within e)
    h

route_fits_by : (place n : ℕ) (found : Option ℕ) → route_by place found ≡ Ok n → found ≡ Some n
route_fits_by place n (Some m) h = cc
route_fits_by place n None h = cc

route_fits : (s : Scope) (name : Name) (n : ℕ) → route s name ≡ Ok n → is_variable Route (kinds s.variables) n ≡ true
unfolding route
route_fits s name n h = variable_fits Route s.variables name.word n (route_fits_by name.span.from n (variable Route s.variables name.word) h)

group_fits_by : (count place : ℕ) (m : Option Named) (members : List ℕ) → ((x : Named) → m ≡ Some x → IsWithin count x) → group_by place m ≡ Ok members → are_neighbours count members ≡ true
group_fits_by count place None members d h = cc
group_fits_by count place (Some (named.Neighbour n)) members d h = cc
group_fits_by count place (Some (named.Group found)) members d h = let e : found ≡ members = cc in subst (λ l. are_neighbours count l ≡ true) e (d (named.Group found) refl)
group_fits_by count place (Some (named.Define patterns)) members d h = cc
group_fits_by count place (Some named.Promise) members d h = cc

group_fits : (count : ℕ) (s : Scope) (name : Name) (members : List ℕ) → AreWithin count s.names → group s name ≡ Ok members → are_neighbours count members ≡ true
unfolding group
group_fits count s name members within h =
    group_fits_by count name.span.from (meaning s.names name.word) members (λ x e. meaning_within count s.names name.word x within e) h

set_fits_by : (count place : ℕ) (m : Option Named) (patterns : List Pattern) → ((x : Named) → m ≡ Some x → IsWithin count x) → set_by place m ≡ Ok patterns → list_all is_pattern patterns ≡ true
set_fits_by count place None patterns d h = cc
set_fits_by count place (Some (named.Neighbour n)) patterns d h = cc
set_fits_by count place (Some (named.Group members)) patterns d h = cc
set_fits_by count place (Some (named.Define found)) patterns d h = let e : found ≡ patterns = cc in subst (λ l. list_all is_pattern l ≡ true) e (d (named.Define found) refl)
set_fits_by count place (Some named.Promise) patterns d h = cc

set_fits : (count : ℕ) (s : Scope) (name : Name) (patterns : List Pattern) → AreWithin count s.names → set s name ≡ Ok patterns → list_all is_pattern patterns ≡ true
unfolding set
set_fits count s name patterns within h =
    set_fits_by count name.span.from (meaning s.names name.word) patterns (λ x e. meaning_within count s.names name.word x within e) h

of_route : (count : ℕ) (s : Scope) (name : Name) (make : ℕ → Value) (x : Value)
    → ((n : ℕ) → is_value count (kinds s.variables) (make n) ≡ is_variable Route (kinds s.variables) n)
    → make <$> route s name ≡ Ok x → is_value count (kinds s.variables) x ≡ true
of_route count s name make x asks h =
    let p = mapped make (route s name) x h in
    subst (λ v. is_value count (kinds s.variables) v ≡ true) p.2 (asks p.0 ∙ route_fits s name p.0 p.1)

value_fits : (count : ℕ) (s : Scope) (term : Term) (x : Value) → AreWithin count s.names → value s term ≡ Ok x → is_value count (kinds s.variables) x ≡ true
value_fits count s (terms.Number n) x within h = let e : values.Number n.value ≡ x = cc in subst (λ v. is_value count (kinds s.variables) v ≡ true) e refl
value_fits count s terms.Bits x within h = let e : values.Bits ≡ x = cc in subst (λ v. is_value count (kinds s.variables) v ≡ true) e refl
value_fits count s (terms.Length of) x within h = of_route count s of (λ n. values.Length n) x (λ n. refl) h
value_fits count s (terms.Med of) x within h = of_route count s of (λ n. values.Med n) x (λ n. refl) h
value_fits count s (terms.Pref of) x within h = of_route count s of (λ n. values.Pref n) x (λ n. refl) h
value_fits count s (terms.Origin of) x within h = of_route count s of (λ n. values.Origin n) x (λ n. refl) h
value_fits count s (terms.First of) x within h = of_route count s of (λ n. values.First n) x (λ n. refl) h
value_fits count s (terms.Last of) x within h = of_route count s of (λ n. values.Last n) x (λ n. refl) h
value_fits count s (terms.Hop of) x within h = of_route count s of (λ n. values.Hop n) x (λ n. refl) h
value_fits count s (terms.Asn of) x within h =
    let p = mapped (λ w. values.Asn w) (who s of) x h in
    subst (λ v. is_value count (kinds s.variables) v ≡ true) p.2 (who_fits count s of p.0 within p.1)

-- ---- formulas

-- a formula fits the place where these are bound, and nests so
pub record IsGood (count : ℕ) (around : List Bound) (m : Measured) (t : Typing) : Type 0 where
  pub fits : fits count t around ≡ true
  pub same : measured t ≡ m

-- what is typed so is good
pub record IsGoodTyper (count : ℕ) (f : Typer) (m : Measured) : Type 0 where
  pub good : (s : Scope) (t : Typing) → AreWithin count s.names → length s.variables + m.levels ≤ 64 → f s ≡ Ok t → IsGood count (kinds s.variables) m t

good_roll : (count : ℕ) (around : List Bound) (m : Measured) (layer : Typing-F Typing) (t : Typing) → roll-Typing layer ≡ t
    → fits_step count (map-Typing Typing Fitting (fits count) layer) around ≡ true → measured_step (map-Typing Typing Measured measured layer) ≡ m → IsGood count around m t
good_roll count around m layer t e f n = record {
  fits = ap (λ t. fits count t around) (sym e) ∙ ap (λ (g : Fitting). g around) (fold-roll-Typing Fitting (fits_step count) layer) ∙ f;
  same = ap measured (sym e) ∙ fold-roll-Typing Measured measured_step layer ∙ n;
}

good_true : (count : ℕ) → IsGoodTyper count (typed_step Form-F.True) (text.measured_step Form-F.True)
good_true count = record { good = λ s t w l h. let e : typings.True ≡ t = cc in good_roll count (kinds s.variables) flat Typing-F.True t (rolls-True ∙ e) refl refl }

good_false : (count : ℕ) → IsGoodTyper count (typed_step Form-F.False) (text.measured_step Form-F.False)
good_false count = record { good = λ s t w l h. let e : typings.False ≡ t = cc in good_roll count (kinds s.variables) flat Typing-F.False t (rolls-False ∙ e) refl refl }

within_more : (least : ℕ) (m : Measured) → m.levels ≤ levels_within least m
within_more least m = grind (arith, nat_tests)

good_not : (count : ℕ) (f : Typer) (m : Measured) → IsGoodTyper count f m → IsGoodTyper count (typed_step (Form-F.Not f)) (text.measured_step (Form-F.Not m))
good_not count f m g = record {
  good = λ s t w l h.
      let p = mapped (λ x. typings.Not x) (f s) t h in
      let more : m.levels ≤ levels_within 3 m = within_more 3 m in
      let lev : length s.variables + m.levels ≤ 64 = omega arith in
      let i = g.good s p.0 w lev p.1 in
      good_roll count (kinds s.variables) (text.measured_step (Form-F.Not m)) (Typing-F.Not p.0) t (rolls-Not p.0 ∙ p.2) i.fits
      (ap (λ (n : Measured). let r : Measured = record { binds = 3; levels = levels_within 3 n + 1 } in r) i.same);
}

-- ---- the members of a chain

abbrev pub AreGoodTypers : ℕ → List Typer → List Measured → Type 0
AreGoodTypers count [] [] = Unit {0}
AreGoodTypers count (f ∷ fs) (m ∷ ms) = IsGoodTyper count f m × AreGoodTypers count fs ms
AreGoodTypers count [] (m ∷ ms) = ⊥
AreGoodTypers count (f ∷ fs) [] = ⊥

abbrev AreFit : ℕ → List Bound → List Measured → List Typing → Type 0
AreFit count around ms ts = (list_all (λ member. member around) (map (fits count) ts) ≡ true) × (map measured ts ≡ ms)

cons_same : (n m : Measured) (ns ms : List Measured) → n ≡ m → ns ≡ ms → n ∷ ns ≡ m ∷ ms
cons_same n m ns ms e f = cc

each_good : (count least : ℕ) (fs : List Typer) (ms : List Measured) (s : Scope) (ts : List Typing) → AreGoodTypers count fs ms → AreWithin count s.names
    → length s.variables + most_within least ms ≤ 64 → each fs s ≡ Ok ts → AreFit count (kinds s.variables) ms ts
unfolding all_of
each_good count least [] [] s ts g w l h = let none : List Typing = [] in let e : none ≡ ts = cc in subst (λ ts. AreFit count (kinds s.variables) [] ts) e (refl, refl)
each_good count least [] (m ∷ ms) s ts g w l h = absurd g
each_good count least (f ∷ fs) [] s ts g w l h = absurd g
each_good count least (f ∷ fs) (m ∷ ms) s ts g w l h =
    let p = chained (λ first. each fs s >>= (λ others. Ok (first ∷ others))) (f s) ts h in
    let q = chained (λ others. Ok (p.0 ∷ others)) (each fs s) ts p.2 in
    let made : Result (List Typing) ℕ = Ok (p.0 ∷ q.0) in
    let whole : made ≡ Ok ts = q.2 in
    let e : p.0 ∷ q.0 ≡ ts = cc in
    let more : m.levels ≤ levels_within least m = within_more least m in
    let one : length s.variables + m.levels ≤ 64 = omega arith in
    let rest : length s.variables + most_within least ms ≤ 64 = omega arith in
    let i = g.0.good s p.0 w one p.1 in
    let r = each_good count least fs ms s q.0 g.1 w rest q.1 in
    subst (λ ts. AreFit count (kinds s.variables) (m ∷ ms) ts) e (
      both (fits count p.0 (kinds s.variables)) (list_all (λ member. member (kinds s.variables)) (map (fits count) q.0)) i.fits r.0,
      cons_same (measured p.0) m (map measured q.0) ms i.same r.1,
    )

good_and : (count : ℕ) (fs : List Typer) (ms : List Measured) → AreGoodTypers count fs ms → IsGoodTyper count (typed_step (Form-F.And fs)) (text.measured_step (Form-F.And ms))
good_and count fs ms g = record {
  good = λ s t w l h.
      let p = mapped (λ x. typings.And x) (each fs s) t h in
      let r = each_good count 3 fs ms s p.0 g w l p.1 in
      good_roll count (kinds s.variables) (text.measured_step (Form-F.And ms)) (Typing-F.And p.0) t (rolls-And p.0 ∙ p.2) r.0
      (ap (λ (ns : List Measured). let r : Measured = record { binds = 2; levels = most_within 3 ns } in r) r.1);
}

good_or : (count : ℕ) (fs : List Typer) (ms : List Measured) → AreGoodTypers count fs ms → IsGoodTyper count (typed_step (Form-F.Or fs)) (text.measured_step (Form-F.Or ms))
good_or count fs ms g = record {
  good = λ s t w l h.
      let p = mapped (λ x. typings.Or x) (each fs s) t h in
      let r = each_good count 2 fs ms s p.0 g w l p.1 in
      good_roll count (kinds s.variables) (text.measured_step (Form-F.Or ms)) (Typing-F.Or p.0) t (rolls-Or p.0 ∙ p.2) r.0
      (ap (λ (ns : List Measured). let r : Measured = record { binds = 1; levels = most_within 2 ns } in r) r.1);
}

good_implies : (count : ℕ) (f g : Typer) (m n : Measured) → IsGoodTyper count f m → IsGoodTyper count g n
    → IsGoodTyper count (typed_step (Form-F.Implies f g)) (text.measured_step (Form-F.Implies m n))
unfolding implies
good_implies count f g m n gf gg = record {
  good = λ s t w l h.
      let p = chained (λ if_. g s >>= (λ then_. Ok (typings.Implies if_ then_))) (f s) t h in
      let q = chained (λ then_. Ok (typings.Implies p.0 then_)) (g s) t p.2 in
      let made : Result Typing ℕ = Ok (typings.Implies p.0 q.0) in
      let whole : made ≡ Ok t = q.2 in
      let e : typings.Implies p.0 q.0 ≡ t = cc in
      let more : m.levels ≤ levels_within 1 m = within_more 1 m in
      let lev : length s.variables + m.levels ≤ 64 = omega arith in
      let lev_right : length s.variables + n.levels ≤ 64 = omega arith in
      let i = gf.good s p.0 w lev p.1 in
      let j = gg.good s q.0 w lev_right q.1 in
      good_roll count (kinds s.variables) (text.measured_step (Form-F.Implies m n)) (Typing-F.Implies p.0 q.0) t (rolls-Implies p.0 q.0 ∙ e)
      (both (fits count p.0 (kinds s.variables)) (fits count q.0 (kinds s.variables)) i.fits j.fits)
      (ap (λ (x : Measured). let r : Measured = record { binds = 0; levels = max (levels_within 1 x) ((measured q.0).levels + 1) } in r) i.same
      ∙ ap (λ (x : Measured). let r : Measured = record { binds = 0; levels = max (levels_within 1 m) (x.levels + 1) } in r) j.same);
}

-- ---- variables

kinds_length : (variables : List Variable) → length (kinds variables) ≡ length variables
kinds_length [] = refl
kinds_length (v ∷ variables) = ap (λ n. suc n) (kinds_length variables)

next : (variables : List Variable) → length variables < 64 → is_next (kinds variables) (length variables) ≡ true
next variables lt =
    subst (λ n. (length variables == n) && nat_lt (length variables) 64 ≡ true) (sym (kinds_length variables)) (next_fits (length variables) lt)

kinds_more : (variables : List Variable) (v : Variable) → kinds (variables ++ v ∷ []) ≡ kinds variables ++ v.bound ∷ []
kinds_more variables v = map-append (λ (v : Variable). v.bound) variables (v ∷ [])

-- what is typed in the scope of one variable more
inner_good : (count : ℕ) (f : Typer) (m : Measured) (s : Scope) (bound : Bound) (name : Name) (x : Typing) → IsGoodTyper count f m → AreWithin count s.names
    → length s.variables + m.levels < 64 → f (bind s bound name) ≡ Ok x → IsGood count (kinds s.variables ++ bound ∷ []) m x
inner_good count f m s bound name x g w l h =
    let v : Variable = record { word = name.word; bound = bound } in
    let n : length (s.variables ++ v ∷ []) ≡ length s.variables + 1 = length-append s.variables (v ∷ []) in
    let lev : length (s.variables ++ v ∷ []) + m.levels ≤ 64 = omega arith in
    subst (λ around. IsGood count around m x) (kinds_more s.variables v) (g.good (bind s bound name) x w lev h)

over_good : (count : ℕ) (var among : Name) (f : Typer) (m : Measured) (s : Scope) (x : List ℕ × Typing) → IsGoodTyper count f m → AreWithin count s.names
    → length s.variables + m.levels < 64 → over_group var among f s ≡ Ok x → (are_neighbours count x.0 ≡ true) × IsGood count (kinds s.variables ++ Neighbour ∷ []) m x.1
unfolding over_group
over_good count var among f m s x g w l h =
    let p = chained (λ called. group s among >>= (λ members. f (bind s Neighbour called) >>= (λ held. Ok (members, held)))) (new_variable s var) x h in
    let q = chained (λ members. f (bind s Neighbour p.0) >>= (λ held. Ok (members, held))) (group s among) x p.2 in
    let r = chained (λ held. Ok (q.0, held)) (f (bind s Neighbour p.0)) x q.2 in
    let made : Result (List ℕ × Typing) ℕ = Ok (q.0, r.0) in
    let whole : made ≡ Ok x = r.2 in
    let pair : List ℕ × Typing = (q.0, r.0) in
    let e : pair ≡ x = cc in
    subst (λ x. (are_neighbours count x.0 ≡ true) × IsGood count (kinds s.variables ++ Neighbour ∷ []) m x.1) e
    (group_fits count s among q.0 w q.1, inner_good count f m s Neighbour p.0 r.0 g w l r.1)

three : (a b c : Bool) → a ≡ true → b ≡ true → c ≡ true → a && b && c ≡ true
three a b c h i j = both (a && b) c (both a b h i) j

good_all : (count : ℕ) (var among : Name) (f : Typer) (m : Measured) → IsGoodTyper count f m
    → IsGoodTyper count (typed_step (Form-F.All var among f)) (text.measured_step (Form-F.All var among m))
good_all count var among f m g = record {
  good = λ s t w l h.
      let p = mapped (λ x. typings.All (length s.variables) x.0 x.1) (over_group var among f s) t h in
      let lev : length s.variables + m.levels < 64 = omega arith in
      let lt : length s.variables < 64 = omega arith in
      let o = over_good count var among f m s p.0 g w lev p.1 in
      good_roll count (kinds s.variables) (text.measured_step (Form-F.All var among m)) (Typing-F.All (length s.variables) p.0.0 p.0.1) t
      (rolls-All (length s.variables) p.0.0 p.0.1 ∙ p.2)
      (three (is_next (kinds s.variables) (length s.variables)) (are_neighbours count p.0.0) (fits count p.0.1 (kinds s.variables ++ Neighbour ∷ [])) (next s.variables lt) o.0 o.1.fits)
      (ap (λ (n : Measured). let r : Measured = record { binds = 3; levels = n.levels + 1 } in r) o.1.same);
}

good_some : (count : ℕ) (var among : Name) (f : Typer) (m : Measured) → IsGoodTyper count f m
    → IsGoodTyper count (typed_step (Form-F.Some var among f)) (text.measured_step (Form-F.Some var among m))
good_some count var among f m g = record {
  good = λ s t w l h.
      let p = mapped (λ x. typings.Some (length s.variables) x.0 x.1) (over_group var among f s) t h in
      let lev : length s.variables + m.levels < 64 = omega arith in
      let lt : length s.variables < 64 = omega arith in
      let o = over_good count var among f m s p.0 g w lev p.1 in
      good_roll count (kinds s.variables) (text.measured_step (Form-F.Some var among m)) (Typing-F.Some (length s.variables) p.0.0 p.0.1) t
      (rolls-Some (length s.variables) p.0.0 p.0.1 ∙ p.2)
      (three (is_next (kinds s.variables) (length s.variables)) (are_neighbours count p.0.0) (fits count p.0.1 (kinds s.variables ++ Neighbour ∷ [])) (next s.variables lt) o.0 o.1.fits)
      (ap (λ (n : Measured). let r : Measured = record { binds = 3; levels = n.levels + 1 } in r) o.1.same);
}

good_if : (count : ℕ) (var : Name) (side : Side) (of : Name) (f g : Typer) (m n : Measured) → IsGoodTyper count f m → IsGoodTyper count g n
    → IsGoodTyper count (typed_step (Form-F.If var side of f g)) (text.measured_step (Form-F.If var side of m n))
unfolding conditional
good_if count var side of f g m n gf gg = record {
  good = λ s t w l h.
      let p = chained (λ called. who s of >>= (λ from. f (bind s Route called) >>= (λ then_. g s >>= (λ else_. Ok (typings.If (length s.variables) side from then_ else_))))) (new_variable s var) t h in
      let q = chained (λ from. f (bind s Route p.0) >>= (λ then_. g s >>= (λ else_. Ok (typings.If (length s.variables) side from then_ else_)))) (who s of) t p.2 in
      let r = chained (λ then_. g s >>= (λ else_. Ok (typings.If (length s.variables) side q.0 then_ else_))) (f (bind s Route p.0)) t q.2 in
      let u = chained (λ else_. Ok (typings.If (length s.variables) side q.0 r.0 else_)) (g s) t r.2 in
      let made : Result Typing ℕ = Ok (typings.If (length s.variables) side q.0 r.0 u.0) in
      let whole : made ≡ Ok t = u.2 in
      let e : typings.If (length s.variables) side q.0 r.0 u.0 ≡ t = cc in
      let lev : length s.variables + m.levels < 64 = omega arith in
      let lev_else : length s.variables + n.levels ≤ 64 = omega arith in
      let lt : length s.variables < 64 = omega arith in
      let i = inner_good count f m s Route p.0 r.0 gf w lev r.1 in
      let j = gg.good s u.0 w lev_else u.1 in
      good_roll count (kinds s.variables) (text.measured_step (Form-F.If var side of m n)) (Typing-F.If (length s.variables) side q.0 r.0 u.0) t
      (rolls-If (length s.variables) side q.0 r.0 u.0 ∙ e)
      (both (is_next (kinds s.variables) (length s.variables) && is_who count (kinds s.variables) q.0 && fits count r.0 (kinds s.variables ++ Route ∷ [])) (fits count u.0 (kinds s.variables))
      (three (is_next (kinds s.variables) (length s.variables)) (is_who count (kinds s.variables) q.0) (fits count r.0 (kinds s.variables ++ Route ∷ [])) (next s.variables lt) (who_fits count s of q.0 w q.1) i.fits)
      j.fits)
      (ap (λ (x : Measured). let r : Measured = record { binds = 3; levels = max x.levels (measured u.0).levels + 1 } in r) i.same
      ∙ ap (λ (x : Measured). let r : Measured = record { binds = 3; levels = max m.levels x.levels + 1 } in r) j.same);
}

-- ---- formulas that hold no formula

good_stands : (count : ℕ) (side : Side) (of : Name) → IsGoodTyper count (typed_step (Form-F.Stands side of)) flat
good_stands count side of = record {
  good = λ s t w l h.
      let p = mapped (λ x. typings.Stands side x) (who s of) t h in
      good_roll count (kinds s.variables) flat (Typing-F.Stands side p.0) t (rolls-Stands side p.0 ∙ p.2) (who_fits count s of p.0 w p.1) refl;
}

good_has : (count : ℕ) (var : Name) (community : ℕ) → IsGoodTyper count (typed_step (Form-F.Has var community)) flat
good_has count var community = record {
  good = λ s t w l h.
      let p = mapped (λ n. typings.Has n community) (route s var) t h in
      good_roll count (kinds s.variables) flat (Typing-F.Has p.0 community) t (rolls-Has p.0 community ∙ p.2) (route_fits s var p.0 p.1) refl;
}

good_crosses : (count : ℕ) (var : Name) (term : Term) → IsGoodTyper count (typed_step (Form-F.Crosses var term)) flat
unfolding crosses
good_crosses count var term = record {
  good = λ s t w l h.
      let p = chained (λ n. value s term >>= (λ x. Ok (typings.Crosses n x))) (route s var) t h in
      let q = chained (λ x. Ok (typings.Crosses p.0 x)) (value s term) t p.2 in
      let made : Result Typing ℕ = Ok (typings.Crosses p.0 q.0) in
      let whole : made ≡ Ok t = q.2 in
      let e : typings.Crosses p.0 q.0 ≡ t = cc in
      good_roll count (kinds s.variables) flat (Typing-F.Crosses p.0 q.0) t (rolls-Crosses p.0 q.0 ∙ e)
      (both (is_variable Route (kinds s.variables) p.0) (is_value count (kinds s.variables) q.0) (route_fits s var p.0 p.1) (value_fits count s term q.0 w q.1)) refl;
}

good_is : (count : ℕ) (one other : Name) → IsGoodTyper count (typed_step (Form-F.Is one other)) flat
unfolding is_same
good_is count one other = record {
  good = λ s t w l h.
      let p = chained (λ n. who s other >>= (λ m. Ok (typings.Is n m))) (who s one) t h in
      let q = chained (λ m. Ok (typings.Is p.0 m)) (who s other) t p.2 in
      let made : Result Typing ℕ = Ok (typings.Is p.0 q.0) in
      let whole : made ≡ Ok t = q.2 in
      let e : typings.Is p.0 q.0 ≡ t = cc in
      good_roll count (kinds s.variables) flat (Typing-F.Is p.0 q.0) t (rolls-Is p.0 q.0 ∙ e)
      (both (is_who count (kinds s.variables) p.0) (is_who count (kinds s.variables) q.0) (who_fits count s one p.0 w p.1) (who_fits count s other q.0 w q.1)) refl;
}

good_prefix : (count : ℕ) (name : Name) → IsGoodTyper count (typed_step (Form-F.PrefixIn name)) flat
good_prefix count name = record {
  good = λ s t w l h.
      let p = mapped (λ x. typings.PrefixIn x) (set s name) t h in
      good_roll count (kinds s.variables) flat (Typing-F.PrefixIn p.0) t (rolls-PrefixIn p.0 ∙ p.2) (set_fits count s name p.0 w p.1) refl;
}

good_compare : (count : ℕ) (one : Term) (op : Cmp) (other : Term) → IsGoodTyper count (typed_step (Form-F.Compare one op other)) flat
unfolding compared
good_compare count one op other = record {
  good = λ s t w l h.
      let p = chained (λ n. value s other >>= (λ m. Ok (typings.Compare n op m))) (value s one) t h in
      let q = chained (λ m. Ok (typings.Compare p.0 op m)) (value s other) t p.2 in
      let made : Result Typing ℕ = Ok (typings.Compare p.0 op q.0) in
      let whole : made ≡ Ok t = q.2 in
      let e : typings.Compare p.0 op q.0 ≡ t = cc in
      good_roll count (kinds s.variables) flat (Typing-F.Compare p.0 op q.0) t (rolls-Compare p.0 op q.0 ∙ e)
      (both (is_value count (kinds s.variables) p.0) (is_value count (kinds s.variables) q.0) (value_fits count s one p.0 w p.1) (value_fits count s other q.0 w q.1)) refl;
}

-- ---- every formula

abbrev IsGoodForm : ℕ → Form → Type 0
IsGoodForm count form = IsGoodTyper count (typed form) (text.measured form)

-- a formula of a layer, where how it is typed and how deep it nests are those of the layer's step
from_layer : (count : ℕ) (layer : Form-F Form) → IsGoodTyper count (typed_step (map-Form Form Typer typed layer)) (text.measured_step (map-Form Form Measured text.measured layer))
    → IsGoodForm count (roll-Form layer)
from_layer count layer g =
    subst (λ f. IsGoodTyper count f (text.measured (roll-Form layer))) (sym (fold-roll-Form Typer typed_step layer))
    (subst (λ m. IsGoodTyper count (typed_step (map-Form Form Typer typed layer)) m) (sym (fold-roll-Form Measured text.measured_step layer)) g)

members_good : {C : Type 0} (count : ℕ) (form : C → Form) → ((e : C) → IsGoodForm count (form e)) → (es : List C)
    → AreGoodTypers count (map typed (map form es)) (map text.measured (map form es))
members_good count form good [] = tt
members_good count form good (e ∷ es) = (good e, members_good count form good es)

layer_good : {C : Type 0} (count : ℕ) (form : C → Form) → ((e : C) → IsGoodForm count (form e)) → (y : Form-F C) → IsGoodForm count (roll-Form (map-Form C Form form y))
layer_good count form good Form-F.True = from_layer count Form-F.True (good_true count)
layer_good count form good Form-F.False = from_layer count Form-F.False (good_false count)
layer_good count form good (Form-F.Not e) = from_layer count (Form-F.Not (form e)) (good_not count (typed (form e)) (text.measured (form e)) (good e))
layer_good count form good (Form-F.And es) = from_layer count (Form-F.And (map form es)) (good_and count (map typed (map form es)) (map text.measured (map form es)) (members_good count form good es))
layer_good count form good (Form-F.Or es) = from_layer count (Form-F.Or (map form es)) (good_or count (map typed (map form es)) (map text.measured (map form es)) (members_good count form good es))
layer_good count form good (Form-F.Implies e d) =
    from_layer count (Form-F.Implies (form e) (form d)) (good_implies count (typed (form e)) (typed (form d)) (text.measured (form e)) (text.measured (form d)) (good e) (good d))
layer_good count form good (Form-F.All var among e) = from_layer count (Form-F.All var among (form e)) (good_all count var among (typed (form e)) (text.measured (form e)) (good e))
layer_good count form good (Form-F.Some var among e) = from_layer count (Form-F.Some var among (form e)) (good_some count var among (typed (form e)) (text.measured (form e)) (good e))
layer_good count form good (Form-F.If var side of e d) =
    from_layer count (Form-F.If var side of (form e) (form d)) (good_if count var side of (typed (form e)) (typed (form d)) (text.measured (form e)) (text.measured (form d)) (good e) (good d))
layer_good count form good (Form-F.Stands side of) = from_layer count (Form-F.Stands side of) (good_stands count side of)
layer_good count form good (Form-F.Has var community) = from_layer count (Form-F.Has var community) (good_has count var community)
layer_good count form good (Form-F.Crosses var term) = from_layer count (Form-F.Crosses var term) (good_crosses count var term)
layer_good count form good (Form-F.Is one other) = from_layer count (Form-F.Is one other) (good_is count one other)
layer_good count form good (Form-F.PrefixIn name) = from_layer count (Form-F.PrefixIn name) (good_prefix count name)
layer_good count form good (Form-F.Compare one op other) = from_layer count (Form-F.Compare one op other) (good_compare count one op other)

pub every_good : (count : ℕ) (form : Form) → IsGoodForm count form
every_good count = ind-Form (λ form. IsGoodForm count form) (λ x y q. subst (λ layer. IsGoodForm count (roll-Form layer)) q (layer_good count (λ e. e.0) (λ e. e.1) y))
