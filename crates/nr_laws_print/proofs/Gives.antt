-- A parser that is given words, wherever they stand, gives a value that is known but for its places.
use Rattle.std.proofs.Common.{◌≡◌, ℕ, Bool, true, false, cond, List, [], ◌∷◌, drop, get_or, Option, Some, Ok, refl, sym, ap, subst, ◌∙◌}
use denote.Enum.Bare.{true_same}
use Rattle.nr_spec_rules.specs.contracts.kind.Kind.{the_type}
use Rattle.nr_spec_rules.specs.declared.kind.Kind.{Kind}
use Rattle.nr_spec_rules.specs.declared.kind.Kind.TheVariants as k
use Rattle.nr_spec_rules.specs.declared.span.Span.{Span}
use Rattle.nr_spec_rules.specs.Tokens.{Token, same_kind, kind_of, span_of}
use Rattle.nr_spec_rules.specs.Parsing.{Outcome, Parser, and_then, ◌>>=◌, ◌<$>◌, pure, sees, expect, found, valued}
use Rattle.nr_laws_print.proofs.Words.{Shown}

-- the tokens of words that stand at these places
abbrev pub laid : List Shown → List ℕ → List Token
laid [] ps = []
laid (w ∷ ws) ps = record { kind = w.kind; from = get_or ps 0 0; text = w.text } ∷ laid ws (drop 1 ps)

-- this value was read but for its places, and these words are left
pub record Given {A B : Type 0} (view : A → B) (v : B) (read : Outcome A) (rest : List Shown) : Type 0 where
  pub value : A
  pub left : List ℕ
  pub reads : read ≡ Ok (value, laid rest left)
  pub same : view value ≡ v

-- the same wherever the words stand
pub record Gives {A B : Type 0} (view : A → B) (v : B) (p : Parser A) (input rest : List Shown) : Type 0 where
  pub run : (ps : List ℕ) → Given view v (p (laid input ps)) rest

abbrev pub nothing : {A : Type 0} → A → Unit {0}
nothing x = tt

given_then : {A B C D : Type 0} (va : A → B) (x : B) (vb : C → D) (z : D) (r : Outcome A) (f : A → Parser C) (mid rest : List Shown)
    → Given va x r mid → ((y : A) → va y ≡ x → Gives vb z (f y) mid rest) → Given vb z (and_then r f) rest
given_then va x vb z r f mid rest g h =
    let next = (h g.value g.same).run g.left in
    record { value = next.value; left = next.left; reads = ap (λ (q : Outcome _). and_then q f) g.reads ∙ next.reads; same = next.same }

pub gives_then : {A B C D : Type 0} {va : A → B} {x : B} {vb : C → D} {z : D} {p : Parser A} {f : A → Parser C} {input mid rest : List Shown}
    → Gives va x p input mid → ((y : A) → va y ≡ x → Gives vb z (f y) mid rest) → Gives vb z (p >>= f) input rest
gives_then {va = va} {x = x} {vb = vb} {z = z} {p = p} {f = f} {input = input} {mid = mid} {rest = rest} g h =
    record { run = λ ps. given_then va x vb z (p (laid input ps)) f mid rest (g.run ps) h }

pub gives_pure : {A B : Type 0} {view : A → B} {v : B} {x : A} {rest : List Shown} → view x ≡ v → Gives view v (pure x) rest rest
gives_pure {x = x} e = record { run = λ ps. record { value = x; left = ps; reads = refl; same = e } }

pub gives_map : {A B C D : Type 0} {va : A → B} {x : B} {vb : C → D} {z : D} {p : Parser A} (f : A → C) {input rest : List Shown}
    → Gives va x p input rest → ((y : A) → va y ≡ x → vb (f y) ≡ z) → Gives vb z (f <$> p) input rest
gives_map f g h = gives_then g (λ y e. gives_pure (h y e))

-- behind a token that is passed
pub gives_behind : {A B : Type 0} {view : A → B} {v : B} (w : Shown) (p : Parser A) {input rest : List Shown} → Gives view v p input rest → Gives view v (λ ts. p (drop 1 ts)) (w ∷ input) rest
gives_behind w p g = record { run = λ ps. g.run (drop 1 ps) }

pub same_self : (kind : Kind) → same_kind kind kind ≡ true
unfolding same_kind
same_self kind = true_same the_type kind kind refl

pub gives_expect : (w : Shown) {rest : List Shown} → Gives nothing tt (expect w.kind) (w ∷ rest) rest
unfolding expect
gives_expect w {rest = rest} = record { run = λ ps. record { value = span_of (laid (w ∷ rest) ps); left = drop 1 ps; reads = rw (same_self w.kind) refl; same = refl } }

-- ---- what comes next

abbrev pub next : List Shown → Kind
next [] = k.End
next (w ∷ ws) = w.kind

pub kind_laid : (ws : List Shown) (ps : List ℕ) → kind_of (laid ws ps) ≡ next ws
kind_laid [] ps = refl
kind_laid (w ∷ ws) ps = refl

-- another kind of token comes next
pub record IsApart (kind : Kind) (rest : List Shown) : Type 0 where
  pub apart : same_kind (next rest) kind ≡ false

pub apart_sees : {kind : Kind} {rest : List Shown} → IsApart kind rest → (ps : List ℕ) → sees kind (laid rest ps) ≡ false
apart_sees {kind = kind} {rest = rest} a ps = ap (λ (got : Kind). same_kind got kind) (kind_laid rest ps) ∙ a.apart

-- a test for a kind that comes next, and one for a kind that doesn't
pub gives_seen : {A B : Type 0} {view : A → B} {v : B} (p q : Parser A) {w : Shown} {input rest : List Shown}
    → Gives view v p (w ∷ input) rest → Gives view v (λ ts. cond (sees w.kind ts) (p ts) (q ts)) (w ∷ input) rest
gives_seen {view = view} {v = v} p q {w = w} {input = input} {rest = rest} g =
    record { run = λ ps. subst (λ (b : Bool). Given view v (cond b (p (laid (w ∷ input) ps)) (q (laid (w ∷ input) ps))) rest) (sym (same_self w.kind)) (g.run ps) }

pub gives_unseen : {A B : Type 0} {view : A → B} {v : B} (p q : Parser A) {kind : Kind} {input rest : List Shown}
    → IsApart kind input → Gives view v q input rest → Gives view v (λ ts. cond (sees kind ts) (p ts) (q ts)) input rest
gives_unseen {view = view} {v = v} p q {kind = kind} {input = input} {rest = rest} a g =
    record { run = λ ps. subst (λ (b : Bool). Given view v (cond b (p (laid input ps)) (q (laid input ps))) rest) (sym (apart_sees a ps)) (g.run ps) }

-- ---- tokens with a value

given_found : {A : Type 0} (o : Option A) (a : A) (ts rest : List Shown) (ps : List ℕ) (w : Shown) → o ≡ Some a
    → Given (λ (x : A × Span). x.0) a (found o (laid (w ∷ rest) ps)) rest
given_found o a ts rest ps w e =
    record { value = (a, span_of (laid (w ∷ rest) ps)); left = drop 1 ps; reads = ap (λ (q : Option _). found q (laid (w ∷ rest) ps)) e; same = refl }

pub gives_valued : {A : Type 0} (w : Shown) (value : List ℕ → Option A) {a : A} {rest : List Shown} → value w.text ≡ Some a
    → Gives (λ (x : A × Span). x.0) a (valued w.kind value) (w ∷ rest) rest
unfolding valued
gives_valued w value {a = a} {rest = rest} e = gives_seen _ _ (record { run = λ ps. given_found (value w.text) a [] rest ps w e })
