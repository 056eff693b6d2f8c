-- Chains: what is read again and again.
use Rattle.std.proofs.Common.{◌≡◌, ℕ, zero, suc, ◌≤◌, Bool, true, false, List, [], ◌∷◌, ◌++◌, length, Ok, Err, refl, sym, ap, subst, ◌∙◌, append_assoc, append-nil, inl, inr, ◌⊎◌, arith, length-append}
use Rattle.nr_spec_rules.specs.declared.kind.Kind.{Kind}
use Rattle.nr_spec_rules.specs.declared.kind.Kind.TheVariants as k
use Rattle.nr_spec_rules.specs.Tokens.{Token, same_kind, kind_of, place_of, span_of, goes_on}
use Rattle.nr_spec_rules.specs.Parsing as read
use Rattle.nr_spec_rules.specs.Parsing.{Parser, Outcome, and_then, sees, others, following, until}
use Rattle.nr_laws_rules.specs.Productions as words
use Rattle.nr_laws_rules.specs.Productions.{StandsFor, token, many, some}
use Rattle.nr_laws_rules.proofs.KindLaws.{kinds_same, same_kinds, Free, SameFirst, same_behind, sees_alike, AllGo, all_joined}
use Rattle.nr_laws_rules.proofs.Steps.{Continues, continued, IsTaken, Traced, Complete, Decides, taken_here, refused_here, widened, Leads, Follows, Goes, one_goes, bind_goes, gives_goes, not_both, bind_traced, bound, pure_decides, pure_traced, maybe_decides}

-- ---- a reading with a bound, of which the number of tokens is enough

pub record IsTakenWithin {A : Type 0} (p : ℕ → Parser A) (R : StandsFor A) (ts : List Token) : Type 0 where
  pub before : List Token
  pub rest : List Token
  pub value : A
  pub split : ts ≡ before ++ rest
  pub is : R before value
  pub alike : (n : ℕ) (y : List Token) → SameFirst rest y → length (before ++ y) ≤ n → p n (before ++ y) ≡ Ok (value, y)

pub record IsRefusedWithin {A : Type 0} (p : ℕ → Parser A) (R : StandsFor A) (ts : List Token) : Type 0 where
  pub before : List Token
  pub rest : List Token
  pub split : ts ≡ before ++ rest
  pub alike : (n : ℕ) (y : List Token) → SameFirst rest y → length (before ++ y) ≤ n → p n (before ++ y) ≡ Err (place_of y)
  pub goes_on : (at : ℕ) → Continues R before at

abbrev pub TracedWithin : {A : Type 0} → (ℕ → Parser A) → StandsFor A → List Token → Type 0
TracedWithin p R ts = IsTakenWithin p R ts ⊎ IsRefusedWithin p R ts

pub unbounded : {A : Type 0} {p : ℕ → Parser A} {R : StandsFor A} {ts : List Token} → TracedWithin p R ts → Traced (λ us. p (length us) us) R ts
unbounded (inl t) = inl (record { before = t.before; rest = t.rest; value = t.value; split = t.split; is = t.is; alike = λ y s. t.alike (length (t.before ++ y)) y s (omega arith) })
unbounded (inr r) = inr (record {
  before = r.before;
  rest = r.rest;
  split = r.split;
  alike = λ y s. r.alike (length (r.before ++ y)) y s (omega arith);
  goes_on = r.goes_on;
})

-- some are any number
pub some_many : {A : Type 0} (R : StandsFor A) (w : List Token) (list : List A) → some R w list → many R w list
some_many R w [] h = absurd h
some_many R w (a ∷ list) h = h

widened_within : {A : Type 0} {p : ℕ → Parser (List A)} {R : StandsFor A} {ts : List Token} → TracedWithin p (some R) ts → TracedWithin p (many R) ts
widened_within {R = R} (inl t) = inl (record { before = t.before; rest = t.rest; value = t.value; split = t.split; is = some_many R t.before t.value t.is; alike = t.alike })
widened_within {R = R} (inr r) = inr (record {
  before = r.before;
  rest = r.rest;
  split = r.split;
  alike = r.alike;
  goes_on = continued (λ list. list) (λ w list is. some_many R (r.before ++ w) list is) r.goes_on;
})

-- ---- behind a token between

-- a part that was read is no longer than the whole
shorter : (t : Token) (front rest ts : List Token) (n : ℕ) → ts ≡ front ++ rest → length (t ∷ ts) ≤ suc n → length rest ≤ n
shorter t front rest ts n e h = omega (arith, length-append front rest, ap length e)

-- one behind a token between, and the others
module _ {A : Type 0} (between : Kind) (item : Parser A) (R : StandsFor A) (ne : same_kind k.End between ≡ false) (ht : (ts : List Token) → Traced item R ts) where
  abbrev Each : StandsFor A
  Each = words.◌>>◌ (token between) R

  more_traced : (n : ℕ) → ((ts : List Token) → length ts ≤ n → TracedWithin (others between item) (many Each) ts)
      → (t : Token) (ts : List Token) → length (t ∷ ts) ≤ suc n → same_kind t.kind between ≡ true → TracedWithin (others between item) (some Each) (t ∷ ts)
  unfolding others
  more_traced n ih t ts short e = at_item (ht ts)
    where
      is : t.kind ≡ between
      is = kinds_same t.kind between e

      refused_at : (front y : List Token) (m : ℕ) → item (front ++ y) ≡ Err (place_of y) → length (t ∷ (front ++ y)) ≤ m → others between item m (t ∷ (front ++ y)) ≡ Err (place_of y)
      refused_at front y zero h long = absurd (omega arith)
      refused_at front y (suc m) h long = rw (e, h) refl

      behind_at : (a : A) (front y : List Token) (m : ℕ) → item (front ++ y) ≡ Ok (a, y) → length (t ∷ (front ++ y)) ≤ m
          → (i : ℕ) × (length y ≤ i) × (others between item m (t ∷ (front ++ y)) ≡ and_then (others between item i y) (λ more. read.pure (a ∷ more)))
      behind_at a front y zero h long = absurd (omega arith)
      behind_at a front y (suc m) h long = (m, omega (arith, length-append front y), rw (e, h) refl)

      at_others : (u : IsTaken item R ts) → TracedWithin (others between item) (many Each) u.rest → TracedWithin (others between item) (some Each) (t ∷ ts)
      at_others u (inl v) = inl (record {
        before = t ∷ (u.before ++ v.before);
        rest = v.rest;
        value = u.value ∷ v.value;
        split = ap (λ (l : List Token). t ∷ l) (u.split ∙ ap (λ (l : List Token). u.before ++ l) v.split ∙ sym (append_assoc u.before v.before v.rest));
        is = (t ∷ u.before, v.before, refl, (span_of (t ∷ []), t ∷ [], u.before, refl, (t, refl, is, refl), u.is), v.is);
        alike = λ m y s long.
            let a = append_assoc u.before v.before y in
            let front-same = subst (λ (l : List Token). SameFirst l (v.before ++ y)) (sym v.split) (same_behind v.before v.rest y s) in
            let step = behind_at u.value u.before (v.before ++ y) m (u.alike (v.before ++ y) front-same) (subst (λ (l : List Token). length (t ∷ l) ≤ m) a long) in
            ap (λ (l : List Token). others between item m (t ∷ l)) a ∙ step.2
            ∙ ap (λ (o : Outcome (List A)). and_then o (λ more. read.pure (u.value ∷ more))) (v.alike step.0 y s step.1);
      })
      at_others u (inr r) = inr (record {
        before = t ∷ (u.before ++ r.before);
        rest = r.rest;
        split = ap (λ (l : List Token). t ∷ l) (u.split ∙ ap (λ (l : List Token). u.before ++ l) r.split ∙ sym (append_assoc u.before r.before r.rest));
        alike = λ m y s long.
            let a = append_assoc u.before r.before y in
            let front-same = subst (λ (l : List Token). SameFirst l (r.before ++ y)) (sym r.split) (same_behind r.before r.rest y s) in
            let step = behind_at u.value u.before (r.before ++ y) m (u.alike (r.before ++ y) front-same) (subst (λ (l : List Token). length (t ∷ l) ≤ m) a long) in
            ap (λ (l : List Token). others between item m (t ∷ l)) a ∙ step.2
            ∙ ap (λ (o : Outcome (List A)). and_then o (λ more. read.pure (u.value ∷ more))) (r.alike step.0 y s step.1);
        goes_on = continued (λ list. u.value ∷ list) (λ w list m. (
          t ∷ u.before,
          r.before ++ w,
          ap (λ (l : List Token). t ∷ l) (append_assoc u.before r.before w),
          (span_of (t ∷ []), t ∷ [], u.before, refl, (t, refl, is, refl), u.is),
          m,
        )) r.goes_on;
      })

      at_item : Traced item R ts → TracedWithin (others between item) (some Each) (t ∷ ts)
      at_item (inl u) = at_others u (ih u.rest (shorter t u.before u.rest ts n u.split short))
      at_item (inr r) = inr (record {
        before = t ∷ r.before;
        rest = r.rest;
        split = ap (λ (l : List Token). t ∷ l) r.split;
        alike = λ m y s long. refused_at r.before y m (r.alike y s) long;
        goes_on = continued (λ a. a ∷ []) (λ w a m. (
          t ∷ (r.before ++ w),
          [],
          ap (λ (l : List Token). t ∷ l) (sym (append-nil (r.before ++ w))),
          (span_of (t ∷ []), t ∷ [], r.before ++ w, refl, (t, refl, is, refl), m),
          refl,
        )) r.goes_on;
      })

  none_traced : (ts : List Token) → sees between ts ≡ false → TracedWithin (others between item) (many Each) ts
  unfolding others
  none_traced ts e = inl (record { before = []; rest = ts; value = []; split = refl; is = refl; alike = λ m y s long. stops m y (sym (sees_alike between ts y s) ∙ e) })
    where
      stops : (m : ℕ) (y : List Token) → sees between y ≡ false → others between item m y ≡ Ok ([], y)
      stops zero y f = refl
      stops (suc m) y f = rw f refl

  pub others_traced : (n : ℕ) (ts : List Token) → length ts ≤ n → TracedWithin (others between item) (many Each) ts
  others_traced n [] short = none_traced [] ne
  others_traced zero (t ∷ ts) short = absurd (omega arith)
  others_traced (suc n) (t ∷ ts) short = by_test (same_kind t.kind between) refl (λ us s. others_traced n us s)
    where
      by_test : (b : Bool) → same_kind t.kind between ≡ b → ((us : List Token) → length us ≤ n → TracedWithin (others between item) (many Each) us)
          → TracedWithin (others between item) (many Each) (t ∷ ts)
      by_test true e ih = widened_within (more_traced n ih t ts short e)
      by_test false e ih = none_traced (t ∷ ts) e

  -- where a token between comes, there is one more at least
  pub some_traced : (ts : List Token) → kind_of ts ≡ between → TracedWithin (others between item) (some Each) ts
  some_traced [] e = absurd (not_both (same_kinds k.End between e) ne)
  some_traced (t ∷ ts) e = more_traced (length ts) (others_traced (length ts)) t ts (omega arith) (same_kinds t.kind between e)

-- ---- words of a chain are taken

-- what follows a part of a chain: a token between, or what follows the chain
others_follow : {A : Type 0} (between : Kind) (R : StandsFor A) (inner : List Kind) → Free inner between
    → (w : List Token) (list : List A) (after : List Token) → many (words.◌>>◌ (token between) R) w list → Free inner (kind_of after) → Free inner (kind_of (w ++ after))
others_follow between R inner fine w [] after e free = rw e free
others_follow between R inner fine w (a ∷ list) after (front, back, e, (span, f, g, e1, (t, alone, is, place), r), m) free = rw (e, e1, alone, is) fine

others_taken : {A : Type 0} (between : Kind) (item : Parser A) (R : StandsFor A) (inner : List Kind) → Free inner between → Complete item R inner
    → (list : List A) (n : ℕ) (w after : List Token) → many (words.◌>>◌ (token between) R) w list → Free (between ∷ inner) (kind_of after) → length (w ++ after) ≤ n
    → others between item n (w ++ after) ≡ Ok (list, after)
unfolding others
others_taken between item R inner fine hc [] zero w after e free long = rw e refl
others_taken between item R inner fine hc [] (suc n) w after e free long = let f = free.0 in rw (e, f) refl
others_taken {A} between item R inner fine hc (a ∷ list) n w after (front, back, e, (span, f, g, e1, (t, alone, is, place), r), m) free long =
    ap (λ (l : List Token). others between item n l) whole
    ∙ at_first n (subst (λ (l : List Token). length l ≤ n) whole long) (λ i h. others_taken between item R inner fine hc list i back after m free h)
  where
    whole : w ++ after ≡ t ∷ (g ++ (back ++ after))
    whole = rw (e, e1, alone) (ap (λ (l : List Token). t ∷ l) (append_assoc g back after))

    step : item (g ++ (back ++ after)) ≡ Ok (a, back ++ after)
    step = hc.takes g a (back ++ after) r (others_follow between R inner fine back list after m free.1)

    seen : same_kind t.kind between ≡ true
    seen = same_kinds t.kind between is

    at_first : (n : ℕ) → length (t ∷ (g ++ (back ++ after))) ≤ n → ((i : ℕ) → length (back ++ after) ≤ i → others between item i (back ++ after) ≡ Ok (list, after))
        → others between item n (t ∷ (g ++ (back ++ after))) ≡ Ok (a ∷ list, after)
    at_first zero long ih = absurd (omega arith)
    at_first (suc n) long ih = let i = ih n (omega (arith, length-append g (back ++ after))) in rw (seen, step, i) refl

-- ---- the tokens of a chain

pub many_goes : {A : Type 0} {R : StandsFor A} → Goes R → Goes (many R)
many_goes {A} {R} h = record { all = λ w list m. all list w m }
  where
    all : (list : List A) (w : List Token) → many R w list → AllGo w
    all [] w e = rw e tt
    all (a ∷ list) w (front, back, e, r, m) = rw e (all_joined front back (h.all front a r) (all list back m))

some_goes : {A : Type 0} {R : StandsFor A} → Goes R → Goes (some R)
some_goes {A} {R} h = record { all = λ w list m. (many_goes h).all w list (some_many R w list m) }

-- ---- lists

-- what is read as any number, and what is made of it
module _ {A : Type 0} {item : Parser A} {R : StandsFor A} {inner : List Kind} (between : Kind) (ne : same_kind k.End between ≡ false) (go : goes_on between ≡ true) (fine : Free inner between) (h : Decides item R inner) where
  others_decide : Decides (λ ts. others between item (length ts) ts) (many (words.◌>>◌ (token between) R)) (between ∷ inner)
  others_decide = record {
    traced = λ ts. unbounded (others_traced between item R ne h.traced (length ts) ts (omega arith));
    complete = record { takes = λ w list after m free. others_taken between item R inner fine h.complete list (length (w ++ after)) w after m free (omega arith) };
    goes = many_goes (bind_goes (one_goes go) (λ _. h.goes));
  }

  following_decides : (first : A) → Decides (following first between item) (words.◌>>=◌ (many (words.◌>>◌ (token between) R)) (λ more. words.gives (first ∷ more))) (between ∷ inner)
  unfolding following
  following_decides first = bound others_decide (λ more. pure_decides)
      (λ more. record { free = λ w x after s free. subst (λ (l : List Token). Free (between ∷ inner) (kind_of (l ++ after))) (sym s.0) free })

  following_follows : (first : A) → Follows inner (words.◌>>=◌ (many (words.◌>>◌ (token between) R)) (λ more. words.gives (first ∷ more))) (between ∷ inner)
  following_follows first = record { free = free }
    where
      free : (w : List Token) (x : List A) (after : List Token) → words.◌>>=◌ (many (words.◌>>◌ (token between) R)) (λ more. words.gives (first ∷ more)) w x → Free (between ∷ inner) (kind_of after)
          → Free inner (kind_of (w ++ after))
      free w x after (more, front, back, e, m, (none, made)) f =
          let same : w ≡ front = e ∙ ap (λ (l : List Token). front ++ l) none ∙ append-nil front in
          rw same (others_follow between R inner fine front more after m f.1)

  pub list_decides : Decides (read.list between item) (words.list between R) (between ∷ inner)
  unfolding read.list
  list_decides = bound h following_decides following_follows

  -- two or more, made into one
  joined_traced : (make : List A → A) (first : A) (ts : List Token) → kind_of ts ≡ between
      → Traced (read.◌<$>◌ make (following first between item)) (words.◌>>=◌ (some (words.◌>>◌ (token between) R)) (λ more. words.gives (make (first ∷ more)))) ts
  unfolding following
  joined_traced make first ts e =
      widened joined (bind_traced (bind_traced (unbounded (some_traced between item R ne h.traced ts e)) (λ more rest. pure_traced rest)) (λ list rest. pure_traced rest))
    where
      joined : (w : List Token) (x : A) → words.◌<$>◌ make (words.◌<$>◌ (λ more. first ∷ more) (some (words.◌>>◌ (token between) R))) w x
          → words.◌>>=◌ (some (words.◌>>◌ (token between) R)) (λ more. words.gives (make (first ∷ more))) w x
      joined w x (list, front, back, e, (more, f, g, e1, m, (none1, made1)), (none, made)) =
          (more, f, [], e ∙ ap (λ (l : List Token). front ++ l) none ∙ append-nil front ∙ e1 ∙ ap (λ (l : List Token). f ++ l) none1, m, (refl, made ∙ ap make made1))

  joined_taken : (make : List A → A) (first : A) → Complete (read.◌<$>◌ make (following first between item)) (words.◌>>=◌ (some (words.◌>>◌ (token between) R)) (λ more. words.gives (make (first ∷ more)))) (between ∷ inner)
  unfolding following
  joined_taken make first = record { takes = takes }
    where
      takes : (w : List Token) (x : A) (after : List Token) → words.◌>>=◌ (some (words.◌>>◌ (token between) R)) (λ more. words.gives (make (first ∷ more))) w x → Free (between ∷ inner) (kind_of after)
          → read.◌<$>◌ make (following first between item) (w ++ after) ≡ Ok (x, after)
      takes w x after (more, front, back, e, m, (none, made)) free =
          let same : w ≡ front = e ∙ ap (λ (l : List Token). front ++ l) none ∙ append-nil front in
          let taken = others_taken between item R inner fine h.complete more (length (front ++ after)) front after (some_many (words.◌>>◌ (token between) R) front more m) free (omega arith) in
          rw (same, taken, made) refl

  some_leads : {B : Type 0} (S : List A → StandsFor B) → Leads between (words.◌>>=◌ (some (words.◌>>◌ (token between) R)) S)
  some_leads {B} S = record { leads = leads }
    where
      leads : (w : List Token) (b : B) (after : List Token) → words.◌>>=◌ (some (words.◌>>◌ (token between) R)) S w b → kind_of (w ++ after) ≡ between
      leads w b after ([], front, back, e, m, s) = absurd m
      leads w b after (a ∷ list, front, back, e, (f, g, e1, (span, f2, g2, e2, (t, alone, is, place), r), m), s) = rw (e, e1, e2, alone) is

  pub chain_decides : (make : List A → A) → Decides (read.chain between make item) (words.chain between make R) (between ∷ inner)
  unfolding read.chain
  chain_decides make = bound h
      (λ first. maybe_decides between first (record { here = λ x free. free.0; inside = λ x free. free }) (λ ts e. widened (λ w x s. inl s) (joined_traced make first ts e)) (some_leads (λ more. words.gives (make (first ∷ more))))
      (joined_taken make first) (bind_goes (some_goes (bind_goes (one_goes go) (λ _. h.goes))) (λ more. gives_goes)))
      (λ first. record { free = follow first })
    where
      follow : (first : A) (w : List Token) (x : A) (after : List Token)
          → words.◌or◌ (words.◌>>=◌ (some (words.◌>>◌ (token between) R)) (λ more. words.gives (make (first ∷ more)))) (words.gives first) w x
          → Free (between ∷ inner) (kind_of after) → Free inner (kind_of (w ++ after))
      follow first w x after (inl s) free = subst (λ (kind : Kind). Free inner kind) (sym ((some_leads (λ more. words.gives (make (first ∷ more)))).leads w x after s)) fine
      follow first w x after (inr (e, made)) free = rw e free.1

-- ---- until the end

rest_of : {A : Type 0} → Outcome A → List Token
rest_of (Ok p) = p.1
rest_of (Err e) = []

same_rest : {A : Type 0} (a b : A) (x y : List Token) → (let o : Outcome A = Ok (a, x) in o) ≡ Ok (b, y) → x ≡ y
unfolding rest_of
same_rest a b x y e = ap rest_of e

behind_read : {A : Type 0} (a : A) (list : List A) (rest : List Token) (o : Outcome (List A)) → and_then o (λ more. read.pure (a ∷ more)) ≡ Ok (list, rest) → (more : List A) × (o ≡ Ok (more, rest))
behind_read {A} a list rest (Ok p) e = let more : List A = p.0 in (p.0, ap (λ (x : List Token). Ok (more, x)) (same_rest (a ∷ p.0) list p.1 rest e))
behind_read a list rest (Err p) e = absurd cc

module _ {A : Type 0} (item : Parser A) (R : StandsFor A) (begins : (w : List Token) (a : A) (after : List Token) → R w a → sees k.End (w ++ after) ≡ false) (ht : (ts : List Token) → Traced item R ts) where
  not_empty : (w : List Token) (a : A) (rest ts : List Token) (n : ℕ) → R w a → ts ≡ w ++ rest → length ts ≤ suc n → length rest ≤ n
  unfolding same_kind
  not_empty [] a rest ts n r e short = absurd (cc (begins [] a [] r))
  not_empty (t ∷ w) a rest ts n r e short = omega (arith, length-append w rest, ap length e)

  ended : (ts : List Token) → sees k.End ts ≡ true → TracedWithin (until k.End item) (many R) ts
  unfolding until
  ended ts e = inl (record { before = []; rest = ts; value = []; split = refl; is = refl; alike = λ m y s long. stops m y (sym (sees_alike k.End ts y s) ∙ e) })
    where
      stops : (m : ℕ) (y : List Token) → sees k.End y ≡ true → until k.End item m y ≡ Ok ([], y)
      stops zero y f = refl
      stops (suc m) y f = rw f refl

  another : (n : ℕ) → ((ts : List Token) → length ts ≤ n → TracedWithin (until k.End item) (many R) ts) → (ts : List Token) → length ts ≤ suc n → sees k.End ts ≡ false
      → TracedWithin (until k.End item) (many R) ts
  unfolding until same_kind
  another n ih ts short e = at_item (ht ts)
    where
      still : (before rest y : List Token) → ts ≡ before ++ rest → SameFirst rest y → sees k.End (before ++ y) ≡ false
      still before rest y split s = sym (sees_alike k.End (before ++ rest) (before ++ y) (same_behind before rest y s)) ∙ ap (λ (l : List Token). sees k.End l) (sym split) ∙ e

      refused_at : (us y : List Token) (m : ℕ) → sees k.End us ≡ false → item us ≡ Err (place_of y) → length us ≤ m → until k.End item m us ≡ Err (place_of y)
      refused_at [] y m f h long = absurd cc
      refused_at (u ∷ us) y zero f h long = absurd (omega arith)
      refused_at (u ∷ us) y (suc m) f h long = rw (f, h) refl

      behind_at : (a : A) (front y : List Token) (m : ℕ) → R front a → item (front ++ y) ≡ Ok (a, y) → length (front ++ y) ≤ m
          → (i : ℕ) × (length y ≤ i) × (until k.End item m (front ++ y) ≡ and_then (until k.End item i y) (λ more. read.pure (a ∷ more)))
      behind_at a [] y m r h long = absurd (cc (begins [] a [] r))
      behind_at a (t ∷ front) y zero r h long = absurd (omega arith)
      behind_at a (t ∷ front) y (suc m) r h long = let f = begins (t ∷ front) a y r in (m, omega (arith, length-append front y), rw (f, h) refl)

      at_others : (u : IsTaken item R ts) → TracedWithin (until k.End item) (many R) u.rest → TracedWithin (until k.End item) (many R) ts
      at_others u (inl v) = inl (record {
        before = u.before ++ v.before;
        rest = v.rest;
        value = u.value ∷ v.value;
        split = u.split ∙ ap (λ (l : List Token). u.before ++ l) v.split ∙ sym (append_assoc u.before v.before v.rest);
        is = (u.before, v.before, refl, u.is, v.is);
        alike = λ m y s long.
            let a = append_assoc u.before v.before y in
            let front-same = subst (λ (l : List Token). SameFirst l (v.before ++ y)) (sym v.split) (same_behind v.before v.rest y s) in
            let step = behind_at u.value u.before (v.before ++ y) m u.is (u.alike (v.before ++ y) front-same) (subst (λ (l : List Token). length l ≤ m) a long) in
            ap (λ (l : List Token). until k.End item m l) a ∙ step.2 ∙ ap (λ (o : Outcome (List A)). and_then o (λ more. read.pure (u.value ∷ more))) (v.alike step.0 y s step.1);
      })
      at_others u (inr r) = inr (record {
        before = u.before ++ r.before;
        rest = r.rest;
        split = u.split ∙ ap (λ (l : List Token). u.before ++ l) r.split ∙ sym (append_assoc u.before r.before r.rest);
        alike = λ m y s long.
            let a = append_assoc u.before r.before y in
            let front-same = subst (λ (l : List Token). SameFirst l (r.before ++ y)) (sym r.split) (same_behind r.before r.rest y s) in
            let step = behind_at u.value u.before (r.before ++ y) m u.is (u.alike (r.before ++ y) front-same) (subst (λ (l : List Token). length l ≤ m) a long) in
            ap (λ (l : List Token). until k.End item m l) a ∙ step.2 ∙ ap (λ (o : Outcome (List A)). and_then o (λ more. read.pure (u.value ∷ more))) (r.alike step.0 y s step.1);
        goes_on = continued (λ list. u.value ∷ list) (λ w list m. (u.before, r.before ++ w, append_assoc u.before r.before w, u.is, m)) r.goes_on;
      })

      at_item : Traced item R ts → TracedWithin (until k.End item) (many R) ts
      at_item (inl u) = at_others u (ih u.rest (not_empty u.before u.value u.rest ts n u.is u.split short))
      at_item (inr r) = inr (record {
        before = r.before;
        rest = r.rest;
        split = r.split;
        alike = λ m y s long. refused_at (r.before ++ y) y m (still r.before r.rest y r.split s) (r.alike y s) long;
        goes_on = continued (λ a. a ∷ []) (λ w a m. (r.before ++ w, [], sym (append-nil (r.before ++ w)), m, refl)) r.goes_on;
      })

  pub until_traced : (n : ℕ) (ts : List Token) → length ts ≤ n → TracedWithin (until k.End item) (many R) ts
  unfolding same_kind
  until_traced n [] short = ended [] refl
  until_traced zero (t ∷ ts) short = absurd (omega arith)
  until_traced (suc n) (t ∷ ts) short = by_test (same_kind t.kind k.End) refl (λ us s. until_traced n us s)
    where
      by_test : (b : Bool) → same_kind t.kind k.End ≡ b → ((us : List Token) → length us ≤ n → TracedWithin (until k.End item) (many R) us) → TracedWithin (until k.End item) (many R) (t ∷ ts)
      by_test true e ih = ended (t ∷ ts) e
      by_test false e ih = another n ih (t ∷ ts) short e

  pub until_taken : Complete item R [] → (list : List A) (n : ℕ) (w after : List Token) → many R w list → sees k.End after ≡ true → length (w ++ after) ≤ n
      → until k.End item n (w ++ after) ≡ Ok (list, after)
  unfolding until same_kind
  until_taken hc [] zero w after e end long = rw e refl
  until_taken hc [] (suc n) w after e end long = rw (e, end) refl
  until_taken hc (a ∷ list) n w after ([], back, e, r, m) end long = absurd (cc (begins [] a [] r))
  until_taken hc (a ∷ list) n w after (t ∷ front, back, e, r, m) end long =
      ap (λ (l : List Token). until k.End item n l) whole ∙ at_first n (subst (λ (l : List Token). length l ≤ n) whole long) (λ i h. until_taken hc list i back after m end h)
    where
      whole : w ++ after ≡ t ∷ (front ++ (back ++ after))
      whole = rw e (ap (λ (l : List Token). t ∷ l) (append_assoc front back after))

      step : item (t ∷ (front ++ (back ++ after))) ≡ Ok (a, back ++ after)
      step = hc.takes (t ∷ front) a (back ++ after) r tt

      seen : same_kind t.kind k.End ≡ false
      seen = begins (t ∷ front) a [] r

      at_first : (n : ℕ) → length (t ∷ (front ++ (back ++ after))) ≤ n → ((i : ℕ) → length (back ++ after) ≤ i → until k.End item i (back ++ after) ≡ Ok (list, after))
          → until k.End item n (t ∷ (front ++ (back ++ after))) ≡ Ok (a ∷ list, after)
      at_first zero long ih = absurd (omega arith)
      at_first (suc n) long ih = let i = ih n (omega (arith, length-append front (back ++ after))) in rw (seen, step, i) refl

  -- where it stops, the end comes next
  pub until_stops : (n : ℕ) (ts : List Token) (list : List A) (rest : List Token) → length ts ≤ n → until k.End item n ts ≡ Ok (list, rest) → sees k.End rest ≡ true
  unfolding until same_kind
  until_stops zero [] list rest short e = rw (← same_rest [] list [] rest e) refl
  until_stops (suc n) [] list rest short e = rw (← same_rest [] list [] rest e) refl
  until_stops zero (t ∷ ts) list rest short e = absurd (omega arith)
  until_stops (suc n) (t ∷ ts) list rest short e = by_test (same_kind t.kind k.End) refl (λ us more s f. until_stops n us more rest s f)
    where
      at_item : Traced item R (t ∷ ts) → ((us : List Token) (more : List A) → length us ≤ n → until k.End item n us ≡ Ok (more, rest) → sees k.End rest ≡ true)
          → and_then (item (t ∷ ts)) (λ first. λ us. and_then (until k.End item n us) (λ more. read.pure (first ∷ more))) ≡ Ok (list, rest) → sees k.End rest ≡ true
      at_item (inl u) ih f =
          let g = behind_read u.value list rest (until k.End item n u.rest)
          (sym (ap (λ (o : Outcome A). and_then o (λ first. λ us. and_then (until k.End item n us) (λ more. read.pure (first ∷ more)))) (taken_here u)) ∙ f) in
          ih u.rest g.0 (not_empty u.before u.value u.rest (t ∷ ts) n u.is u.split short) g.1
      at_item (inr r) ih f =
          absurd (cc (sym (ap (λ (o : Outcome A). and_then o (λ first. λ us. and_then (until k.End item n us) (λ more. read.pure (first ∷ more)))) (refused_here r)) ∙ f))

      by_test : (b : Bool) → same_kind t.kind k.End ≡ b → ((us : List Token) (more : List A) → length us ≤ n → until k.End item n us ≡ Ok (more, rest) → sees k.End rest ≡ true) → sees k.End rest ≡ true
      by_test true f ih = rw (← same_rest [] list (t ∷ ts) rest (rw f at e)) f
      by_test false f ih = at_item (ht (t ∷ ts)) ih (rw f at e)
