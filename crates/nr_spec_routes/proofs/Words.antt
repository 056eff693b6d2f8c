-- One more entry behind others.
use Rattle.std.proofs.Common.{◌≡◌, Bool, true, false, cond, List, [], ◌∷◌, ◌++◌, Option, Some, None, refl, ap, sym, ◌∙◌}
use Rattle.std.specs.Option.{unwrap_or, option_map}
use Rattle.nr_spec_log.specs.Chain.{LogEntry}
use Rattle.nr_spec_routes.specs.Routes.{AreRowsAfter, word_of, route_after}
use Rattle.nr_spec_routes.specs.Keys.{Key, Row, route_in}
use Rattle.nr_spec_routes.specs.LookBack.{after_last, first_of, last_of, later_or}
use Rattle.nr_spec_routes.specs.Effects.{effect_of, says}
use Rattle.nr_spec_bgp.specs.Attributes.{AttributeBlock}

pub later_or-assoc : {A : Type 0} (x y z : Option A) → later_or (later_or x y) z ≡ later_or x (later_or y z)
later_or-assoc (Some x) y z = refl
later_or-assoc None y z = refl

pub later_or-none : {A : Type 0} (x : Option A) → later_or x None ≡ x
later_or-none (Some x) = refl
later_or-none None = refl

unwrap_later : {A : Type 0} (x y : Option A) (z : A) → unwrap_or (later_or x y) z ≡ unwrap_or x (unwrap_or y z)
unwrap_later (Some x) y z = refl
unwrap_later None y z = refl

-- what later entries say hides what earlier ones say
pub last_of-append : {E A : Type 0} (f : E → Option A) (es later : List E) → last_of f (es ++ later) ≡ later_or (last_of f later) (last_of f es)
last_of-append f [] later = sym (later_or-none (last_of f later))
last_of-append f (e ∷ es) later = ap (λ x. later_or x (f e)) (last_of-append f es later) ∙ later_or-assoc (last_of f later) (last_of f es) (f e)

pub last_of-push : {E A : Type 0} (f : E → Option A) (es : List E) (e : E) → last_of f (es ++ e ∷ []) ≡ later_or (f e) (last_of f es)
last_of-push f es e = last_of-append f es (e ∷ [])

pub first_of-push : {E A : Type 0} (f : E → Option A) (es : List E) (e : E) → first_of f (es ++ e ∷ []) ≡ later_or (first_of f es) (f e)
first_of-push f [] e = later_or-none (f e)
first_of-push f (d ∷ es) e = ap (later_or (f d)) (first_of-push f es e) ∙ sym (later_or-assoc (f d) (first_of f es) (f e))

pub unwrap_push : {E A : Type 0} (f : E → Option A) (es : List E) (e : E) (z : A) → unwrap_or (last_of f (es ++ e ∷ [])) z ≡ unwrap_or (f e) (unwrap_or (last_of f es) z)
unwrap_push f es e z = ap (λ x. unwrap_or x z) (last_of-push f es e) ∙ unwrap_later (f e) (last_of f es) z

push_each : {E : Type 0} (b : Bool) (es : List E) (e : E) (x y : Option (List E)) → later_or (option_map (λ l. l ++ e ∷ []) x) (option_map (λ l. l ++ e ∷ []) y) ≡ option_map (λ l. l ++ e ∷ []) (later_or x y)
push_each b es e (Some x) y = refl
push_each b es e None y = refl

push_first : {E : Type 0} (b : Bool) (es : List E) (e : E) → cond b (Some (es ++ e ∷ [])) None ≡ option_map (λ l. l ++ e ∷ []) (cond b (Some es) None)
push_first true es e = refl
push_first false es e = refl

-- Behind one that passes there is nothing yet; another stands behind the last that passed.
pub after_last-push : {E : Type 0} (test : E → Bool) (es : List E) (e : E) → after_last test (es ++ e ∷ []) ≡ cond (test e) (Some []) (option_map (λ l. l ++ e ∷ []) (after_last test es))
after_last-push {E} test es e = by (test e) refl es
  where
    by : (b : Bool) → test e ≡ b → (es : List E) → after_last test (es ++ e ∷ []) ≡ cond b (Some []) (option_map (λ l. l ++ e ∷ []) (after_last test es))
    by true t [] = ap (λ x. cond x (Some []) None) t
    by false t [] = ap (λ x. cond x (Some []) None) t
    by true t (d ∷ es) = ap (λ x. later_or x (cond (test d) (Some (es ++ e ∷ [])) None)) (by true t es)
    by false t (d ∷ es) = ap (λ x. later_or x (cond (test d) (Some (es ++ e ∷ [])) None)) (by false t es) ∙ (ap (later_or (option_map (λ l. l ++ e ∷ []) (after_last test es))) (push_first (test d) es e) ∙ push_each true es e (after_last test es) (cond (test d) (Some es) None))

-- where each route is what the entry says, or else what it was, the rows are those after one entry more
pub one_more : (base rows new : List Row) (past : List LogEntry) (e : LogEntry) → ((key : Key) → route_in new key ≡ unwrap_or (says (effect_of e) key) (route_in rows key)) → AreRowsAfter base past rows → AreRowsAfter base (past ++ e ∷ []) new
one_more base rows new past e step before key =
    step key ∙ (ap (unwrap_or (word_of key e)) (before key) ∙ sym (unwrap_push (word_of key) past e (route_in base key)))

-- what the last entry says of a route, and where it says nothing
pub said_last : (base : List Row) (past : List LogEntry) (e : LogEntry) (key : Key) (route : Option AttributeBlock) → word_of key e ≡ Some route → route_after base (past ++ e ∷ []) key ≡ route
said_last base past e key route says = unwrap_push (word_of key) past e (route_in base key) ∙ ap (λ w. unwrap_or w (route_after base past key)) says

pub unsaid_last : (base : List Row) (past : List LogEntry) (e : LogEntry) (key : Key) → word_of key e ≡ None → route_after base (past ++ e ∷ []) key ≡ route_after base past key
unsaid_last base past e key silent = unwrap_push (word_of key) past e (route_in base key) ∙ ap (λ w. unwrap_or w (route_after base past key)) silent
