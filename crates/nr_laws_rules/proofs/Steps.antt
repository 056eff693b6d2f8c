-- A reading decides a production: it takes a front that stands for the value, or refuses the first token at
-- which no front could go on; it looks at no token behind the next one; and it takes each front of the production
-- that doesn't stand before a token with which the front could go on.
use Rattle.std.proofs.Common.{◌≡◌, ℕ, ◌+◌, length, Bool, true, false, cond, List, [], ◌∷◌, ◌++◌, Option, Some, None, Ok, Err, refl, sym, ap, subst, ◌∙◌, append_assoc, inl, inr, ◌⊎◌}
use Rattle.nr_spec_rules.specs.declared.kind.Kind.{Kind}
use Rattle.nr_spec_rules.specs.declared.kind.Kind.TheVariants as k
use Rattle.nr_spec_rules.specs.declared.span.Span.{Span}
use Rattle.nr_spec_rules.specs.Tokens.{Token, same_kind, kind_of, place_of, text_of, span_of, goes_on}
use Rattle.nr_spec_rules.specs.Parsing as read
use Rattle.nr_spec_rules.specs.Parsing.{Parser, Outcome, and_then, sees, expect, valued}
use Rattle.nr_laws_rules.specs.Productions as words
use Rattle.nr_laws_rules.specs.Productions.{StandsFor, one, token}
use Rattle.nr_laws_rules.proofs.Samples.{spelling, sample, placed, beyond, placed_joined}
use Rattle.nr_laws_rules.proofs.KindLaws.{kinds_same, same_kinds, Free, SameFirst, by_first, same_behind, kind_alike, sees_alike, AllGo, all_joined}

pub record IsTaken {A : Type 0} (p : Parser A) (R : StandsFor A) (ts : List Token) : Type 0 where
  pub before : List Token
  pub rest : List Token
  pub value : A
  pub split : ts ≡ before ++ rest
  pub is : R before value
  pub alike : (y : List Token) → SameFirst rest y → p (before ++ y) ≡ Ok (value, y)

-- tokens that are written out at a place, with which what stands before it can go on
pub record Continues {A : Type 0} (R : StandsFor A) (before : List Token) (at : ℕ) : Type 0 where
  pub kinds : List Kind
  pub value : A
  pub is : R (before ++ placed at kinds) value

-- the same of what is made of it
pub continued : {A B : Type 0} {R : StandsFor A} {S : StandsFor B} {before front : List Token} (f : A → B) → ((w : List Token) (a : A) → R (before ++ w) a → S (front ++ w) (f a))
    → ((at : ℕ) → Continues R before at) → (at : ℕ) → Continues S front at
continued f h c at = let d = c at in record { kinds = d.kinds; value = f d.value; is = h (placed at d.kinds) d.value d.is }

pub record IsRefused {A : Type 0} (p : Parser A) (R : StandsFor A) (ts : List Token) : Type 0 where
  pub before : List Token
  pub rest : List Token
  pub split : ts ≡ before ++ rest
  pub alike : (y : List Token) → SameFirst rest y → p (before ++ y) ≡ Err (place_of y)
  pub goes_on : (at : ℕ) → Continues R before at

abbrev pub Traced : {A : Type 0} → Parser A → StandsFor A → List Token → Type 0
Traced p R ts = IsTaken p R ts ⊎ IsRefused p R ts

-- each front of the production is taken where none of these kinds of token stands behind it
pub record Complete {A : Type 0} (p : Parser A) (R : StandsFor A) (stops : List Kind) : Type 0 where
  pub takes : (w : List Token) (a : A) (after : List Token) → R w a → Free stops (kind_of after) → p (w ++ after) ≡ Ok (a, after)

-- no word has a token at which the tokens of a text end
pub record Goes {A : Type 0} (R : StandsFor A) : Type 0 where
  pub all : (w : List Token) (a : A) → R w a → AllGo w

pub record Decides {A : Type 0} (p : Parser A) (R : StandsFor A) (stops : List Kind) : Type 0 where
  pub traced : (ts : List Token) → Traced p R ts
  pub complete : Complete p R stops
  pub goes : Goes R

-- ---- the tokens of words

pub bind_goes : {A B : Type 0} {R : StandsFor A} {S : A → StandsFor B} → Goes R → ((a : A) → Goes (S a)) → Goes (words.◌>>=◌ R S)
bind_goes {A} {B} {R} {S} h g = record { all = all }
  where
    all : (w : List Token) (b : B) → words.◌>>=◌ R S w b → AllGo w
    all w b (a, front, back, e, r, s) = rw e (all_joined front back (h.all front a r) ((g a).all back b s))

pub gives_goes : {A : Type 0} {a : A} → Goes (words.gives a)
gives_goes = record { all = λ w b h. rw (h.0) tt }

pub or_goes : {A : Type 0} {R S : StandsFor A} → Goes R → Goes S → Goes (words.◌or◌ R S)
or_goes {A} {R} {S} h g = record { all = all }
  where
    all : (w : List Token) (a : A) → words.◌or◌ R S w a → AllGo w
    all w a (inl r) = h.all w a r
    all w a (inr s) = g.all w a s

pub one_goes : {A : Type 0} {Means : Token → A → Type 0} {kind : Kind} → goes_on kind ≡ true → Goes (one kind Means)
one_goes {A} {Means} {kind} go = record { all = all }
  where
    all : (w : List Token) (a : A) → one kind Means w a → AllGo w
    all w a (t, alone, is, m) = rw alone (ap goes_on is ∙ go, tt)

pub taken_here : {A : Type 0} {p : Parser A} {R : StandsFor A} {ts : List Token} (t : IsTaken p R ts) → p ts ≡ Ok (t.value, t.rest)
taken_here {p = p} t = ap p t.split ∙ t.alike t.rest refl

pub refused_here : {A : Type 0} {p : Parser A} {R : StandsFor A} {ts : List Token} (r : IsRefused p R ts) → p ts ≡ Err (place_of r.rest)
refused_here {p = p} r = ap p r.split ∙ r.alike r.rest refl

-- ---- a production has words

pub record HasWord {A : Type 0} (R : StandsFor A) : Type 0 where
  pub here : (at : ℕ) → Continues R [] at

none_before : (before rest : List Token) → [] ≡ before ++ rest → before ≡ []
none_before [] rest e = refl
none_before (t ∷ before) rest e = absurd cc

pub word_of : {A : Type 0} {p : Parser A} {R : StandsFor A} → Traced p R [] → HasWord R
word_of {R = R} (inl t) = record { here = λ at. record { kinds = []; value = t.value; is = subst (λ (w : List Token). R w t.value) (none_before t.before t.rest t.split) t.is } }
word_of {R = R} (inr r) = record {
  here = λ at.
      let c = r.goes_on at in
      record { kinds = c.kinds; value = c.value; is = subst (λ (w : List Token). R (w ++ placed at c.kinds) c.value) (none_before r.before r.rest r.split) c.is };
}

pub word_behind : {A : Type 0} {S : StandsFor A} (kind : Kind) → HasWord S → HasWord (words.◌>>◌ (token kind) S)
word_behind kind w = record {
  here = λ at.
      let t = sample at kind in
      let c = w.here (at + 1 + length (spelling kind)) in
      record { kinds = kind ∷ c.kinds; value = c.value; is = (span_of (t ∷ []), t ∷ [], placed (at + 1 + length (spelling kind)) c.kinds, refl, (t, refl, refl, refl), c.is) };
}

-- ---- a wider production

abbrev pub IsWider : {A : Type 0} → StandsFor A → StandsFor A → Type 0
IsWider {A} R S = (w : List Token) (a : A) → R w a → S w a

pub widened : {A : Type 0} {p : Parser A} {R S : StandsFor A} {ts : List Token} → IsWider R S → Traced p R ts → Traced p S ts
widened h (inl t) = inl (record { before = t.before; rest = t.rest; value = t.value; split = t.split; is = h t.before t.value t.is; alike = t.alike })
widened h (inr r) = inr (record {
  before = r.before;
  rest = r.rest;
  split = r.split;
  alike = r.alike;
  goes_on = continued (λ a. a) (λ w a is. h (r.before ++ w) a is) r.goes_on;
})

pub widened_word : {A : Type 0} {R S : StandsFor A} → IsWider R S → HasWord R → HasWord S
widened_word h w = record { here = continued (λ a. a) (λ v a is. h v a is) w.here }

-- what refuses whatever comes
pub refused_at_once : {A : Type 0} {p : Parser A} {R : StandsFor A} (ts : List Token) → HasWord R → ((y : List Token) → SameFirst ts y → p y ≡ Err (place_of y)) → Traced p R ts
refused_at_once ts w h = inr (record { before = []; rest = ts; split = refl; alike = h; goes_on = w.here })

-- ---- one after another

pub bind_traced : {A B : Type 0} {p : Parser A} {q : A → Parser B} {R : StandsFor A} {S : A → StandsFor B} {ts : List Token}
    → Traced p R ts → ((a : A) (rest : List Token) → Traced (q a) (S a) rest) → Traced (λ us. and_then (p us) q) (words.◌>>=◌ R S) ts
bind_traced {A} {B} {p} {q} {R} {S} {ts} (inr r) h =
    inr (record {
      before = r.before;
      rest = r.rest;
      split = r.split;
      alike = λ y s. ap (λ (o : Outcome A). and_then o q) (r.alike y s);
      goes_on = λ at.
          let c = r.goes_on at in
          let w = (word_of (h c.value [])).here (beyond at c.kinds) in
          let joined = ap (λ (l : List Token). r.before ++ l) (placed_joined at c.kinds w.kinds) ∙ sym (append_assoc r.before (placed at c.kinds) (placed (beyond at c.kinds) w.kinds)) in
          record { kinds = c.kinds ++ w.kinds; value = w.value; is = (c.value, r.before ++ placed at c.kinds, placed (beyond at c.kinds) w.kinds, joined, c.is, w.is) };
    })
bind_traced {A} {B} {p} {q} {R} {S} {ts} (inl t) h = then_of (h t.value t.rest)
  where
    met : (before rest y : List Token) → t.rest ≡ before ++ rest → SameFirst rest y → and_then (p ((t.before ++ before) ++ y)) q ≡ q t.value (before ++ y)
    met before rest y split s =
        ap (λ (l : List Token). and_then (p l) q) (append_assoc t.before before y)
        ∙ ap (λ (o : Outcome A). and_then o q) (t.alike (before ++ y) (subst (λ (l : List Token). SameFirst l (before ++ y)) (sym split) (same_behind before rest y s)))

    whole : (before rest : List Token) → t.rest ≡ before ++ rest → ts ≡ (t.before ++ before) ++ rest
    whole before rest e = t.split ∙ ap (λ (l : List Token). t.before ++ l) e ∙ sym (append_assoc t.before before rest)

    then_of : Traced (q t.value) (S t.value) t.rest → Traced (λ us. and_then (p us) q) (words.◌>>=◌ R S) ts
    then_of (inl u) = inl (record {
      before = t.before ++ u.before;
      rest = u.rest;
      value = u.value;
      split = whole u.before u.rest u.split;
      is = (t.value, t.before, u.before, refl, t.is, u.is);
      alike = λ y s. met u.before u.rest y u.split s ∙ u.alike y s;
    })
    then_of (inr r) = inr (record {
      before = t.before ++ r.before;
      rest = r.rest;
      split = whole r.before r.rest r.split;
      alike = λ y s. met r.before r.rest y r.split s ∙ r.alike y s;
      goes_on = continued (λ b. b) (λ w b is. (t.value, t.before, r.before ++ w, append_assoc t.before r.before w, t.is, is)) r.goes_on;
    })

-- what follows the first part is none of the kinds with which that could go on
pub record Follows {B : Type 0} (stops : List Kind) (S : StandsFor B) (after_stops : List Kind) : Type 0 where
  pub free : (w : List Token) (b : B) (after : List Token) → S w b → Free after_stops (kind_of after) → Free stops (kind_of (w ++ after))

pub bind_complete : {A B : Type 0} {p : Parser A} {q : A → Parser B} {R : StandsFor A} {S : A → StandsFor B} {stops after_stops : List Kind}
    → Complete p R stops → ((a : A) → Complete (q a) (S a) after_stops) → ((a : A) → Follows stops (S a) after_stops)
    → Complete (λ us. and_then (p us) q) (words.◌>>=◌ R S) after_stops
bind_complete {A} {B} {p} {q} {R} {S} {stops} {after_stops} hp hq follow = record { takes = λ w b after is free. takes w b after is free }
  where
    takes : (w : List Token) (b : B) (after : List Token) → words.◌>>=◌ R S w b → Free after_stops (kind_of after) → and_then (p (w ++ after)) q ≡ Ok (b, after)
    takes w b after (a, front, back, e, r, s) free =
        ap (λ (l : List Token). and_then (p (l ++ after)) q) e
        ∙ ap (λ (l : List Token). and_then (p l) q) (append_assoc front back after)
        ∙ ap (λ (o : Outcome A). and_then o q) (hp.takes front a (back ++ after) r ((follow a).free back b after s free))
        ∙ (hq a).takes back b after s free

pub bound : {A B : Type 0} {p : Parser A} {q : A → Parser B} {R : StandsFor A} {S : A → StandsFor B} {stops after_stops : List Kind}
    → Decides p R stops → ((a : A) → Decides (q a) (S a) after_stops) → ((a : A) → Follows stops (S a) after_stops)
    → Decides (λ us. and_then (p us) q) (words.◌>>=◌ R S) after_stops
bound hp hq follow = record {
  traced = λ ts. bind_traced (hp.traced ts) (λ a rest. (hq a).traced rest);
  complete = bind_complete hp.complete (λ a. (hq a).complete) follow;
  goes = bind_goes hp.goes (λ a. (hq a).goes);
}

-- the same where the first part ends by itself
pub next : {A B : Type 0} {p : Parser A} {q : A → Parser B} {R : StandsFor A} {S : A → StandsFor B} {after_stops : List Kind}
    → Decides p R [] → ((a : A) → Decides (q a) (S a) after_stops) → Decides (λ us. and_then (p us) q) (words.◌>>=◌ R S) after_stops
next hp hq = bound hp hq (λ a. record { free = λ w b after s f. tt })

pub pure_traced : {A : Type 0} {a : A} (ts : List Token) → Traced (read.pure a) (words.gives a) ts
pure_traced {A} {a} ts = inl (record { before = []; rest = ts; value = a; split = refl; is = (refl, refl); alike = λ y s. refl })

pub pure_decides : {A : Type 0} {a : A} {stops : List Kind} → Decides (read.pure a) (words.gives a) stops
pure_decides {A} {a} = record {
  traced = pure_traced;
  complete = record { takes = λ w b after h free. pure_complete w b after h.0 h.1 };
  goes = gives_goes;
}
  where
    pure_complete : (w : List Token) (b : A) (after : List Token) → w ≡ [] → b ≡ a → (let r : Outcome A = Ok (a, w ++ after) in r) ≡ Ok (b, after)
    pure_complete w b after e f = ap (λ (l : List Token). let r : Outcome A = Ok (a, l ++ after) in r) e ∙ ap (λ (x : A). let r : Outcome A = Ok (x, after) in r) (sym f)

-- what is made of the value
pub mapped : {A B : Type 0} {p : Parser A} {R : StandsFor A} {stops : List Kind} (f : A → B) → Decides p R stops → Decides (read.◌<$>◌ f p) (words.◌<$>◌ f R) stops
mapped {stops = stops} f h = bound h (λ a. pure_decides) (λ a. record { free = λ w b after s free. subst (λ (l : List Token). Free stops (kind_of (l ++ after))) (sym s.0) free })

-- ---- single tokens

pub not_both : {b : Bool} → b ≡ true → b ≡ false → ⊥
not_both e f = absurd (cc (sym e ∙ f))

pub expect_decides : (kind : Kind) → same_kind k.End kind ≡ false → goes_on kind ≡ true → Decides (expect kind) (token kind) []
unfolding expect
expect_decides kind ne go = record { traced = traced; complete = record { takes = λ w span after is free. takes w span after is }; goes = one_goes go }
  where
    refused : (ts : List Token) → sees kind ts ≡ false → Traced (expect kind) (token kind) ts
    refused ts e = refused_at_once ts (record { here = λ at. let t = sample at kind in record { kinds = kind ∷ []; value = span_of (t ∷ []); is = (t, refl, refl, refl) } })
        (λ y s. let f : sees kind y ≡ false = sym (sees_alike kind ts y s) ∙ e in rw f refl)

    at_token : (t : Token) (ts : List Token) (b : Bool) → same_kind t.kind kind ≡ b → Traced (expect kind) (token kind) (t ∷ ts)
    at_token t ts false e = refused (t ∷ ts) e
    at_token t ts true e = inl (record { before = t ∷ []; rest = ts; value = span_of (t ∷ []); split = refl; is = (t, refl, kinds_same t.kind kind e, refl); alike = λ y s. rw e refl })

    traced : (ts : List Token) → Traced (expect kind) (token kind) ts
    traced [] = refused [] ne
    traced (t ∷ ts) = at_token t ts (same_kind t.kind kind) refl

    takes : (w : List Token) (span : Span) (after : List Token) → token kind w span → expect kind (w ++ after) ≡ Ok (span, after)
    takes w span after (t, alone, is, place) =
        let e : same_kind t.kind kind ≡ true = same_kinds t.kind kind is in rw (alone, place, e) refl

-- what the spelling of a kind is worth
pub record HasValue {A : Type 0} (kind : Kind) (value : List ℕ → Option A) : Type 0 where
  pub is : A
  pub fine : value (spelling kind) ≡ Some is

pub valued_decides : {A : Type 0} (kind : Kind) (value : List ℕ → Option A) → same_kind k.End kind ≡ false → goes_on kind ≡ true → HasValue kind value → Decides (valued kind value) (words.valued kind value) []
unfolding valued
valued_decides {A} kind value ne go some = record { traced = traced; complete = record { takes = λ w x after is free. takes w x after is }; goes = one_goes go }
  where
    has : HasWord (words.valued kind value)
    has = record { here = λ at. let t = sample at kind in record { kinds = kind ∷ []; value = (some.is, span_of (t ∷ [])); is = (t, refl, refl, (some.fine, refl)) } }

    refused : (ts : List Token) → sees kind ts ≡ false → Traced (valued kind value) (words.valued kind value) ts
    refused ts e = refused_at_once ts has (λ y s. let f : sees kind y ≡ false = sym (sees_alike kind ts y s) ∙ e in rw f refl)

    with_text : (t : Token) (ts : List Token) → same_kind t.kind kind ≡ true → (o : Option A) → value t.text ≡ o → Traced (valued kind value) (words.valued kind value) (t ∷ ts)
    with_text t ts e None v = refused_at_once (t ∷ ts) has
        (λ y s. let f : sees kind y ≡ true = sym (sees_alike kind (t ∷ ts) y s) ∙ e in
        let g : value (text_of y) ≡ None = sym (ap value (by_first text_of (λ u us. refl) (t ∷ ts) y s)) ∙ v in rw (f, g) refl)
    with_text t ts e (Some x) v = inl (record {
      before = t ∷ [];
      rest = ts;
      value = (x, span_of (t ∷ []));
      split = refl;
      is = (t, refl, kinds_same t.kind kind e, (v, refl));
      alike = λ y s. rw (e, v) refl;
    })

    at_token : (t : Token) (ts : List Token) (b : Bool) → same_kind t.kind kind ≡ b → Traced (valued kind value) (words.valued kind value) (t ∷ ts)
    at_token t ts false e = refused (t ∷ ts) e
    at_token t ts true e = with_text t ts e (value t.text) refl

    traced : (ts : List Token) → Traced (valued kind value) (words.valued kind value) ts
    traced [] = refused [] ne
    traced (t ∷ ts) = at_token t ts (same_kind t.kind kind) refl

    takes : (w : List Token) (x : A × Span) (after : List Token) → words.valued kind value w x → valued kind value (w ++ after) ≡ Ok (x, after)
    takes w x after (t, alone, is, (v, place)) =
        let e : same_kind t.kind kind ≡ true = same_kinds t.kind kind is in
        rw (alone, e, v) (ap (λ (span : Span). let r : Outcome (A × Span) = Ok ((x.0, span), after) in r) (sym place))

-- ---- by the kind of the next token

-- what begins with a token of this kind
pub record Leads {A : Type 0} (kind : Kind) (R : StandsFor A) : Type 0 where
  pub leads : (w : List Token) (a : A) (after : List Token) → R w a → kind_of (w ++ after) ≡ kind

pub one_leads : {A B : Type 0} {Means : Token → A → Type 0} {S : A → StandsFor B} (kind : Kind) → Leads kind (words.◌>>=◌ (one kind Means) S)
one_leads {A} {B} {Means} {S} kind = record { leads = leads }
  where
    leads : (w : List Token) (b : B) (after : List Token) → words.◌>>=◌ (one kind Means) S w b → kind_of (w ++ after) ≡ kind
    leads w b after (a, front, back, e, (t, alone, is, m), s) = rw (e, alone) is

pub bind_leads : {A B : Type 0} {R : StandsFor A} {S : A → StandsFor B} (kind : Kind) → Leads kind R → Leads kind (words.◌>>=◌ R S)
bind_leads {A} {B} {R} {S} kind h = record { leads = leads }
  where
    leads : (w : List Token) (b : B) (after : List Token) → words.◌>>=◌ R S w b → kind_of (w ++ after) ≡ kind
    leads w b after (a, front, back, e, r, s) =
        ap (λ (l : List Token). kind_of (l ++ after)) e ∙ ap kind_of (append_assoc front back after) ∙ h.leads front a (back ++ after) r

-- what begins with a token that ends the part before it
pub leads_follow : {B : Type 0} {S : StandsFor B} {stops after_stops : List Kind} (kind : Kind) → Leads kind S → Free stops kind → Follows stops S after_stops
leads_follow {stops = stops} kind h free = record { free = λ w b after s f. subst (λ (x : Kind). Free stops x) (sym (h.leads w b after s)) free }

pub kind_traced : {A : Type 0} (P : Kind → Parser A) {R : StandsFor A} (ts : List Token) → Traced (P (kind_of ts)) R ts → Traced (λ us. P (kind_of us) us) R ts
kind_traced {A} P {R} ts t = by_case t
  where
    same : (before rest y : List Token) → ts ≡ before ++ rest → SameFirst rest y → kind_of (before ++ y) ≡ kind_of ts
    same before rest y split s = sym (kind_alike (before ++ rest) (before ++ y) (same_behind before rest y s)) ∙ sym (ap kind_of split)

    by_case : Traced (P (kind_of ts)) R ts → Traced (λ us. P (kind_of us) us) R ts
    by_case (inl t) = inl (record {
      before = t.before;
      rest = t.rest;
      value = t.value;
      split = t.split;
      is = t.is;
      alike = λ y s. ap (λ (kind : Kind). P kind (t.before ++ y)) (same t.before t.rest y t.split s) ∙ t.alike y s;
    })
    by_case (inr r) = inr (record {
      before = r.before;
      rest = r.rest;
      split = r.split;
      alike = λ y s. ap (λ (kind : Kind). P kind (r.before ++ y)) (same r.before r.rest y r.split s) ∙ r.alike y s;
      goes_on = r.goes_on;
    })

-- what begins with a token of such a kind
pub record Begins {A : Type 0} (Is : Kind → Type 0) (R : StandsFor A) : Type 0 where
  pub begins : (w : List Token) (a : A) (after : List Token) → R w a → Is (kind_of (w ++ after))

pub leads_begin : {A : Type 0} {Is : Kind → Type 0} {R : StandsFor A} (kind : Kind) → Leads kind R → Is kind → Begins Is R
leads_begin {Is = Is} kind h is = record { begins = λ w a after r. subst Is (sym (h.leads w a after r)) is }

pub or_begins : {A : Type 0} {Is : Kind → Type 0} {R S : StandsFor A} → Begins Is R → Begins Is S → Begins Is (words.◌or◌ R S)
or_begins {A} {Is} {R} {S} h g = record { begins = begins }
  where
    begins : (w : List Token) (a : A) (after : List Token) → words.◌or◌ R S w a → Is (kind_of (w ++ after))
    begins w a after (inl r) = h.begins w a after r
    begins w a after (inr s) = g.begins w a after s

pub bind_begins : {A B : Type 0} {Is : Kind → Type 0} {R : StandsFor A} {S : A → StandsFor B} → Begins Is R → Begins Is (words.◌>>=◌ R S)
bind_begins {A} {B} {Is} {R} {S} h = record { begins = begins }
  where
    begins : (w : List Token) (b : B) (after : List Token) → words.◌>>=◌ R S w b → Is (kind_of (w ++ after))
    begins w b after (a, front, back, e, r, s) =
        subst (λ (l : List Token). Is (kind_of l)) (sym (append_assoc front back after) ∙ ap (λ (l : List Token). l ++ after) (sym e)) (h.begins front a (back ++ after) r)

-- an alternative whose words are taken by what their kind chooses
pub record IsChosen {A : Type 0} (P : Kind → Parser A) (R : StandsFor A) (stops : List Kind) : Type 0 where
  pub complete : Complete (λ us. P (kind_of us) us) R stops
  pub goes : Goes R

pub chosen : {A : Type 0} {P : Kind → Parser A} {p : Parser A} {R : StandsFor A} {stops : List Kind} → Begins (λ kind. P kind ≡ p) R → Complete p R stops → Goes R → IsChosen P R stops
chosen {A} {P} {p} h c g = record {
  complete = record { takes = λ w a after r free. ap (λ (q : Parser A). q (w ++ after)) (h.begins w a after r) ∙ c.takes w a after r free };
  goes = g;
}

infixr 8 ◌else◌
pub ◌else◌ : {A : Type 0} {P : Kind → Parser A} {R S : StandsFor A} {stops : List Kind} → IsChosen P R stops → IsChosen P S stops → IsChosen P (words.◌or◌ R S) stops
◌else◌ {A} {P} {R} {S} {stops} h g = record { complete = record { takes = takes }; goes = or_goes h.goes g.goes }
  where
    takes : (w : List Token) (a : A) (after : List Token) → words.◌or◌ R S w a → Free stops (kind_of after) → P (kind_of (w ++ after)) (w ++ after) ≡ Ok (a, after)
    takes w a after (inl r) free = h.complete.takes w a after r free
    takes w a after (inr s) free = g.complete.takes w a after s free

pub by_kind : {A : Type 0} {P : Kind → Parser A} {R : StandsFor A} {stops : List Kind} → ((kind : Kind) (ts : List Token) → kind_of ts ≡ kind → Traced (P kind) R ts) → IsChosen P R stops
    → Decides (λ us. P (kind_of us) us) R stops
by_kind {P = P} ht c = record { traced = λ ts. kind_traced P ts (ht (kind_of ts) ts refl); complete = c.complete; goes = c.goes }

-- a token whose kind is known, and what follows it
pub passed_traced : {A : Type 0} {q : Parser A} {S : StandsFor A} (kind : Kind) → same_kind k.End kind ≡ false → (ts : List Token) → kind_of ts ≡ kind → ((rest : List Token) → Traced q S rest)
    → Traced (λ us. and_then (read.passed us) (λ _. q)) (words.◌>>◌ (token kind) S) ts
passed_traced kind ne [] e h = absurd (not_both (same_kinds k.End kind e) ne)
passed_traced {A} {q} {S} kind ne (t ∷ ts) e h = behind_it (h ts)
  where
    behind_it : Traced q S ts → Traced (λ us. and_then (read.passed us) (λ _. q)) (words.◌>>◌ (token kind) S) (t ∷ ts)
    behind_it (inl u) = inl (record {
      before = t ∷ u.before;
      rest = u.rest;
      value = u.value;
      split = ap (λ (l : List Token). t ∷ l) u.split;
      is = (span_of (t ∷ []), t ∷ [], u.before, refl, (t, refl, e, refl), u.is);
      alike = u.alike;
    })
    behind_it (inr r) = inr (record {
      before = t ∷ r.before;
      rest = r.rest;
      split = ap (λ (l : List Token). t ∷ l) r.split;
      alike = r.alike;
      goes_on = continued (λ a. a) (λ w a is. (span_of (t ∷ []), t ∷ [], r.before ++ w, refl, (t, refl, e, refl), is)) r.goes_on;
    })

pub passed_complete : {A : Type 0} {q : Parser A} {S : StandsFor A} {stops : List Kind} (kind : Kind) → Complete q S stops
    → Complete (λ us. and_then (read.passed us) (λ _. q)) (words.◌>>◌ (token kind) S) stops
passed_complete {A} {q} {S} {stops} kind h = record { takes = takes }
  where
    takes : (w : List Token) (a : A) (after : List Token) → words.◌>>◌ (token kind) S w a → Free stops (kind_of after) → and_then (read.passed (w ++ after)) (λ _. q) ≡ Ok (a, after)
    takes w a after (span, front, back, e, (t, alone, is, place), s) free = rw (e, alone) (h.takes back a after s free)

-- what is read where a token of this kind comes next
pub record DecidesAt {A : Type 0} (kind : Kind) (p : Parser A) (R : StandsFor A) (stops : List Kind) : Type 0 where
  pub traced : (ts : List Token) → kind_of ts ≡ kind → Traced p R ts
  pub leads : Leads kind R
  pub complete : Complete p R stops
  pub goes : Goes R

pub passed_at : {A : Type 0} {q : Parser A} {S : StandsFor A} {stops : List Kind} (kind : Kind) → same_kind k.End kind ≡ false → goes_on kind ≡ true → Decides q S stops
    → DecidesAt kind (λ us. and_then (read.passed us) (λ _. q)) (words.◌>>◌ (token kind) S) stops
passed_at kind ne go h = record {
  traced = λ ts e. passed_traced kind ne ts e h.traced;
  leads = one_leads kind;
  complete = passed_complete kind h.complete;
  goes = bind_goes (one_goes go) (λ _. h.goes);
}

pub next_at : {A B : Type 0} {kind : Kind} {p : Parser A} {q : A → Parser B} {R : StandsFor A} {S : A → StandsFor B} {stops : List Kind}
    → DecidesAt kind p R [] → ((a : A) → Decides (q a) (S a) stops) → DecidesAt kind (λ us. and_then (p us) q) (words.◌>>=◌ R S) stops
next_at {kind = kind} h g = record {
  traced = λ ts e. bind_traced (h.traced ts e) (λ a rest. (g a).traced rest);
  leads = bind_leads kind h.leads;
  complete = bind_complete h.complete (λ a. (g a).complete) (λ a. record { free = λ w b after s f. tt });
  goes = bind_goes h.goes (λ a. (g a).goes);
}

pub mapped_at : {A B : Type 0} {kind : Kind} {p : Parser A} {R : StandsFor A} (f : A → B) → DecidesAt kind p R [] → DecidesAt kind (read.◌<$>◌ f p) (words.◌<$>◌ f R) []
mapped_at f h = next_at h (λ a. pure_decides)

pub chosen_at : {A : Type 0} {P : Kind → Parser A} {p : Parser A} {R : StandsFor A} {stops : List Kind} {kind : Kind} → P kind ≡ p → DecidesAt kind p R stops → IsChosen P R stops
chosen_at {kind = kind} is h = chosen (leads_begin kind h.leads is) h.complete h.goes

-- an alternative that begins with a token of a known kind
pub chosen_passed : {A : Type 0} {P : Kind → Parser A} {q : Parser A} {S : StandsFor A} {stops : List Kind} (kind : Kind) → goes_on kind ≡ true → P kind ≡ (λ us. and_then (read.passed us) (λ _. q)) → Decides q S stops
    → IsChosen P (words.◌>>◌ (token kind) S) stops
chosen_passed kind go is h = chosen (leads_begin kind (one_leads kind) is) (passed_complete kind h.complete) (bind_goes (one_goes go) (λ _. h.goes))

-- ---- one of two by the next token

pub either_decides : {A : Type 0} (kind : Kind) {q p : Parser A} {S R : StandsFor A} {stops : List Kind} → ((ts : List Token) → kind_of ts ≡ kind → Traced q (words.◌or◌ S R) ts)
    → Leads kind S → Complete q S stops → Goes S → Begins (λ x. same_kind x kind ≡ false) R → Decides p R stops
    → Decides (λ ts. cond (sees kind ts) (q ts) (p ts)) (words.◌or◌ S R) stops
either_decides {A} kind {q} {p} {S} {R} {stops} ht hl hc hg hb d = record { traced = traced; complete = record { takes = takes }; goes = or_goes hg d.goes }
  where
    by_test : (ts : List Token) (b : Bool) → same_kind (kind_of ts) kind ≡ b → Traced (λ us. cond b (q us) (p us)) (words.◌or◌ S R) ts
    by_test ts true e = ht ts (kinds_same (kind_of ts) kind e)
    by_test ts false e = widened (λ w x r. inr r) (d.traced ts)

    traced : (ts : List Token) → Traced (λ us. cond (sees kind us) (q us) (p us)) (words.◌or◌ S R) ts
    traced ts = kind_traced (λ x us. cond (same_kind x kind) (q us) (p us)) ts (by_test ts (same_kind (kind_of ts) kind) refl)

    takes : (w : List Token) (b : A) (after : List Token) → words.◌or◌ S R w b → Free stops (kind_of after) → cond (sees kind (w ++ after)) (q (w ++ after)) (p (w ++ after)) ≡ Ok (b, after)
    takes w b after (inl s) free =
        let e : same_kind (kind_of (w ++ after)) kind ≡ true = same_kinds (kind_of (w ++ after)) kind (hl.leads w b after s) in
        rw e (hc.takes w b after s free)
    takes w b after (inr r) free =
        let e : same_kind (kind_of (w ++ after)) kind ≡ false = hb.begins w b after r in
        rw e (d.complete.takes w b after r free)

-- ---- a part that may be left out

pub record MayStop (kind : Kind) (stops inner : List Kind) : Type 0 where
  pub here : (x : Kind) → Free stops x → same_kind x kind ≡ false
  pub inside : (x : Kind) → Free stops x → Free inner x

pub maybe_decides : {A : Type 0} (kind : Kind) {q : Parser A} {S : StandsFor A} {stops inner : List Kind} (a : A) → MayStop kind stops inner
    → ((ts : List Token) → kind_of ts ≡ kind → Traced q (words.◌or◌ S (words.gives a)) ts) → Leads kind S → Complete q S inner → Goes S
    → Decides (λ ts. cond (sees kind ts) (q ts) (Ok (a, ts))) (words.◌or◌ S (words.gives a)) stops
maybe_decides {A} kind {q} {S} {stops} {inner} a may ht hl hc hg = record { traced = traced; complete = record { takes = takes }; goes = or_goes hg gives_goes }
  where
    by_test : (ts : List Token) (b : Bool) → same_kind (kind_of ts) kind ≡ b → Traced (λ us. cond b (q us) (Ok (a, us))) (words.◌or◌ S (words.gives a)) ts
    by_test ts true e = ht ts (kinds_same (kind_of ts) kind e)
    by_test ts false e = inl (record { before = []; rest = ts; value = a; split = refl; is = inr (refl, refl); alike = λ y s. refl })

    traced : (ts : List Token) → Traced (λ us. cond (sees kind us) (q us) (Ok (a, us))) (words.◌or◌ S (words.gives a)) ts
    traced ts = kind_traced (λ x us. cond (same_kind x kind) (q us) (Ok (a, us))) ts (by_test ts (same_kind (kind_of ts) kind) refl)

    takes : (w : List Token) (b : A) (after : List Token) → words.◌or◌ S (words.gives a) w b → Free stops (kind_of after) → cond (sees kind (w ++ after)) (q (w ++ after)) (Ok (a, w ++ after)) ≡ Ok (b, after)
    takes w b after (inl s) free =
        let e : same_kind (kind_of (w ++ after)) kind ≡ true = same_kinds (kind_of (w ++ after)) kind (hl.leads w b after s) in
        rw e (hc.takes w b after s (may.inside (kind_of after) free))
    takes w b after (inr (e, f)) free =
        let g : same_kind (kind_of after) kind ≡ false = may.here (kind_of after) free in
        rw (e, f, g) refl
