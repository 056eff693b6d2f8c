-- Parsers whose values stand where the tokens do, and whose refusals are at a token or at 0: each step by itself.
use Rattle.std.proofs.Common.{◌≡◌, ℕ, zero, suc, ◌+◌, ◌≤◌, Bool, true, false, cond, List, [], ◌∷◌, ◌++◌, length, drop, map, Option, Some, None, Ok, Err, refl, ap, arith}
use Rattle.nr_spec_rules.specs.declared.kind.Kind.{Kind}
use Rattle.nr_spec_rules.specs.declared.span.Span.{Span}
use Rattle.nr_spec_rules.specs.Tokens.{Token, kind_of, text_of, span_of, place_of}
use Rattle.nr_spec_rules.specs.Parsing.{Outcome, Parser, and_then, ◌>>=◌, ◌<$>◌, pure, refuse, sees, expect, found, valued, others, prepend, following, list, chain, until}
use Rattle.nr_laws_typing.specs.Moved.{Move, moved_span}

-- A move that takes no place up to this one elsewhere.
pub record Stays (most : ℕ) (to : Move) : Type 0 where
  pub stays : (n : ℕ) → n ≤ most → to n ≡ n

-- Tokens that end at this place or before it.
abbrev pub AreIn : ℕ → List Token → Type 0
AreIn most [] = Unit {0}
AreIn most (t ∷ ts) = (t.from + length t.text ≤ most) × AreIn most ts

-- What was read stays where it is, and the tokens left end in time; or the refusal is at such a place.
abbrev pub Kept : {A : Type 0} → ℕ → (A → A) → Outcome A → Type 0
Kept most moved (Ok read) = (moved read.0 ≡ read.0) × AreIn most read.1
Kept most moved (Err place) = place ≤ most

pub record Keeps {A : Type 0} (most : ℕ) (moved : A → A) (p : Parser A) : Type 0 where
  pub keeps : (ts : List Token) → AreIn most ts → Kept most moved (p ts)

abbrev pub same : {A : Type 0} → A → A
same x = x

pub then_keeps : {A B : Type 0} {most : ℕ} {m : A → A} {n : B → B} {p : Parser A} {f : A → Parser B} → Keeps most m p → ((x : A) → m x ≡ x → Keeps most n (f x)) → Keeps most n (p >>= f)
then_keeps {A} {B} {most} {m} {n} {p} {f} kp kf = record { keeps = λ ts i. by (p ts) (kp.keeps ts i) }
  where
    by : (r : Outcome A) → Kept most m r → Kept most n (and_then r f)
    by (Ok x) k = (kf x.0 k.0).keeps x.1 k.1
    by (Err place) k = k

pub pure_keeps : {A : Type 0} {most : ℕ} {m : A → A} {x : A} → m x ≡ x → Keeps most m (pure x)
pure_keeps e = record { keeps = λ ts i. (e, i) }

pub map_keeps : {A B : Type 0} {most : ℕ} {m : A → A} {n : B → B} {p : Parser A} (f : A → B) → Keeps most m p → ((x : A) → m x ≡ x → n (f x) ≡ f x) → Keeps most n (f <$> p)
map_keeps f kp h = then_keeps kp (λ x e. pure_keeps (h x e))

place_in : (most : ℕ) (ts : List Token) → AreIn most ts → place_of ts ≤ most
place_in most [] i = omega arith
place_in most (t ∷ ts) i = let h = i.0 in omega (arith, h)

end_in : (most : ℕ) (ts : List Token) → AreIn most ts → place_of ts + length (text_of ts) ≤ most
end_in most [] i = omega arith
end_in most (t ∷ ts) i = i.0

rest_in : (most : ℕ) (ts : List Token) → AreIn most ts → AreIn most (drop 1 ts)
rest_in most [] i = tt
rest_in most (t ∷ ts) i = i.1

span_stays : (most : ℕ) (to : Move) → Stays most to → (ts : List Token) → AreIn most ts → moved_span to (span_of ts) ≡ span_of ts
span_stays most to s ts i =
    let a = s.stays (place_of ts) (place_in most ts i) in
    let b = s.stays (place_of ts + length (text_of ts)) (end_in most ts i) in
    rw (a, b) refl

pub refuse_keeps : {A : Type 0} {most : ℕ} {m : A → A} → Keeps most m refuse
refuse_keeps {most = most} = record { keeps = λ ts i. place_in most ts i }

-- behind a token that is passed
pub behind_keeps : {A : Type 0} {most : ℕ} {m : A → A} (p : Parser A) → Keeps most m p → Keeps most m (λ ts. p (drop 1 ts))
behind_keeps {most = most} p k = record { keeps = λ ts i. k.keeps (drop 1 ts) (rest_in most ts i) }

-- both ways of a test
pub if_keeps : {A : Type 0} {most : ℕ} {m : A → A} {p q : Parser A} (test : List Token → Bool) → Keeps most m p → Keeps most m q → Keeps most m (λ ts. cond (test ts) (p ts) (q ts))
if_keeps {A} {most} {m} {p} {q} test kp kq = record { keeps = λ ts i. by ts i (test ts) }
  where
    by : (ts : List Token) → AreIn most ts → (b : Bool) → Kept most m (cond b (p ts) (q ts))
    by ts i true = kp.keeps ts i
    by ts i false = kq.keeps ts i

pub kind_keeps : {A : Type 0} {most : ℕ} {m : A → A} (by : Kind → Parser A) → ((kind : Kind) → Keeps most m (by kind)) → Keeps most m (λ ts. by (kind_of ts) ts)
kind_keeps by k = record { keeps = λ ts i. (k (kind_of ts)).keeps ts i }

pub expect_keeps : {most : ℕ} {to : Move} → Stays most to → (kind : Kind) → Keeps most (moved_span to) (expect kind)
unfolding expect
expect_keeps {most} {to} s kind = record { keeps = λ ts i. by ts i (sees kind ts) }
  where
    by : (ts : List Token) → AreIn most ts → (b : Bool) → Kept most (moved_span to) (cond b (Ok (span_of ts, drop 1 ts)) (Err (place_of ts)))
    by ts i true = (span_stays most to s ts i, rest_in most ts i)
    by ts i false = place_in most ts i

abbrev pub beside : {A : Type 0} → Move → A × Span → A × Span
beside to x = (x.0, moved_span to x.1)

-- a token of this kind, with what its text stands for
pub valued_keeps : {A : Type 0} {most : ℕ} {to : Move} → Stays most to → (kind : Kind) (value : List ℕ → Option A) → Keeps most (beside to) (valued kind value)
unfolding valued
valued_keeps {A} {most} {to} s kind value = record { keeps = λ ts i. by ts i (sees kind ts) (value (text_of ts)) }
  where
    by : (ts : List Token) → AreIn most ts → (b : Bool) (o : Option A) → Kept most (beside {A = A} to) (cond b (found o ts) (Err (place_of ts)))
    by ts i false o = place_in most ts i
    by ts i true None = place_in most ts i
    by ts i true (Some x) = (ap (λ (span : Span). (x, span)) (span_stays most to s ts i), rest_in most ts i)

-- ---- more than one

cons_stays : {A : Type 0} (m : A → A) (x : A) (xs : List A) → m x ≡ x → map m xs ≡ xs → map m (x ∷ xs) ≡ x ∷ xs
cons_stays m x xs e es = rw (e, es) refl

pub others_keep : {A : Type 0} {most : ℕ} {m : A → A} {item : Parser A} (between : Kind) → Keeps most m item → (n : ℕ) → Keeps most (map m) (others between item n)
unfolding others
others_keep between k zero = pure_keeps refl
others_keep {A} {most} {m} {item} between k (suc n) =
    if_keeps (sees between) (behind_keeps _ (then_keeps k (λ x e. then_keeps (others_keep between k n) (λ more es. pure_keeps (cons_stays m x more e es))))) (pure_keeps refl)

following_keep : {A : Type 0} {most : ℕ} {m : A → A} {item : Parser A} (first : A) (between : Kind) → m first ≡ first → Keeps most m item → Keeps most (map m) (following first between item)
unfolding following
following_keep {A} {most} {m} {item} first between e k = record {
  keeps = λ ts i. (then_keeps {n = map m} (others_keep between k (length ts)) (λ more es. pure_keeps (cons_stays m first more e es))).keeps ts i;
}

pub list_keeps : {A : Type 0} {most : ℕ} {m : A → A} {item : Parser A} (between : Kind) → Keeps most m item → Keeps most (map m) (list between item)
unfolding list
list_keeps between k = then_keeps k (λ first e. following_keep first between e k)

pub chain_keeps : {A : Type 0} {most : ℕ} {m : A → A} {make : List A → A} {item : Parser A} (between : Kind) → Keeps most m item → ((xs : List A) → map m xs ≡ xs → m (make xs) ≡ make xs)
    → Keeps most m (chain between make item)
unfolding chain
chain_keeps {make = make} between k h =
    then_keeps k (λ first e. if_keeps (sees between) (map_keeps make (following_keep first between e k) h) (pure_keeps e))

pub until_keeps : {A : Type 0} {most : ℕ} {m : A → A} {item : Parser A} (closing : Kind) → Keeps most m item → (n : ℕ) → Keeps most (map m) (until closing item n)
unfolding until
until_keeps closing k zero = pure_keeps refl
until_keeps {A} {most} {m} {item} closing k (suc n) =
    if_keeps (sees closing) (pure_keeps refl) (then_keeps k (λ first e. then_keeps (until_keeps closing k n) (λ more es. pure_keeps (cons_stays m first more e es))))
