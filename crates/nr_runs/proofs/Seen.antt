-- What one more observation makes of what is kept.
use Rattle.std.proofs.Common.{◌≡◌, ◌==◌, ℕ, eqb-true, Bool, true, false, ◌&&◌, List, [], ◌∷◌, ◌++◌, Option, Some, None, refl, ap, sym, ◌∙◌, append-nil}
use Rattle.std.specs.Prelude.{filter, map, is_some, if◌then◌else◌}
use Rattle.std.proofs.lemmas.List.Elements.{filter-append}
use Rattle.std.proofs.lemmas.List.{map-append}
use Rattle.nr_spec_bgp.specs.Prefixes.{Cidr}
use Rattle.nr_spec_runs.specs.Runs.{Moment, Span, Key, Observation, Run, same_prefix, same_promise, same_key, is_of, is_run_of, moments_of, spans_of, runs_of}
use Rattle.nr_spec_runs.proofs.Rows.{goes_on, begins, ends, ends_as}
use Rattle.nr_runs.specs.Views.{Kept, begun, still, ComesFrom, Saw}

-- ---- one key

goes : (ms : List Moment) (m : Moment) (es : List Span) (b : ℕ) → ComesFrom ms es (Some b) → m.bad ≡ true → ComesFrom (ms ++ m ∷ []) es (Some b)
goes ms m es b h e = record { runs = λ close. goes_on close ms m e h.bad ∙ h.runs close; bad = ends_as ms m ∙ e }

idle : (ms : List Moment) (m : Moment) (es : List Span) → ComesFrom ms es None → m.bad ≡ false → ComesFrom (ms ++ m ∷ []) es None
idle ms m es h e = record { runs = λ close. ends close ms m e ∙ h.runs m.begin; bad = ends_as ms m ∙ e }

first_bad : (ms : List Moment) (m : Moment) (es : List Span) → ComesFrom ms es None → m.bad ≡ true → ComesFrom (ms ++ m ∷ []) es (Some m.begin)
first_bad ms m es h e = record {
  runs = λ close. begins close ms m e h.bad ∙ ap (λ l. l ++ record { begin = m.begin; end = close } ∷ []) (h.runs close ∙ append-nil es);
  bad = ends_as ms m ∙ e;
}

first_good : (ms : List Moment) (m : Moment) (es : List Span) (b : ℕ) → ComesFrom ms es (Some b) → m.bad ≡ false → ComesFrom (ms ++ m ∷ []) (es ++ record { begin = b; end = m.begin } ∷ []) None
first_good ms m es b h e = record {
  runs = λ close. ends close ms m e ∙ h.runs m.begin ∙ sym (append-nil (es ++ record { begin = b; end = m.begin } ∷ []));
  bad = ends_as ms m ∙ e;
}

-- ---- every key

of_both : (a b : Bool) → (a && b) ≡ true → (a ≡ true) × (b ≡ true)
of_both true true e = (refl, refl)
of_both true false e = absurd cc
of_both false b e = absurd cc

same_prefix_is : (p q : Cidr) → same_prefix p q ≡ true → p ≡ q
same_prefix_is p q h =
    let both = of_both (p.addr == q.addr) (p.len == q.len) h in
    ap (λ (a : ℕ). record { addr = a; len = p.len }) (eqb-true p.addr q.addr both.0) ∙ ap (λ (l : ℕ). record { addr = q.addr; len = l }) (eqb-true p.len q.len both.1)

same_key_is : (p q : Key) → same_key p q ≡ true → p ≡ q
same_key_is p q h =
    let both = of_both (same_promise p q) (same_prefix p.prefix q.prefix) h in
    let numbers = of_both (p.file == q.file) (p.promise == q.promise) both.0 in
    ap (λ (a : ℕ). record { file = a; promise = p.promise; prefix = p.prefix }) (eqb-true p.file q.file numbers.0)
    ∙ ap (λ (a : ℕ). record { file = q.file; promise = a; prefix = p.prefix }) (eqb-true p.promise q.promise numbers.1)
    ∙ ap (λ (l : Cidr). record { file = q.file; promise = q.promise; prefix = l }) (same_prefix_is p.prefix q.prefix both.1)

moments_more : (key : Key) (seen : List Observation) (o : Observation) → moments_of key (seen ++ o ∷ []) ≡ moments_of key seen ++ moments_of key (o ∷ [])
moments_more key seen o = ap (map (λ (o : Observation). o.moment)) (filter-append (is_of key) seen (o ∷ [])) ∙ map-append (λ (o : Observation). o.moment) (filter (is_of key) seen) (filter (is_of key) (o ∷ []))

spans_more : (key : Key) (runs : List Run) (r : Run) → spans_of key (runs ++ r ∷ []) ≡ spans_of key runs ++ spans_of key (r ∷ [])
spans_more key runs r = ap (map (λ (r : Run). r.span)) (filter-append (is_run_of key) runs (r ∷ [])) ∙ map-append (λ (r : Run). r.span) (filter (is_run_of key) runs) (filter (is_run_of key) (r ∷ []))

from_more : (key : Key) (seen : List Observation) (o : Observation) (es : List Span) (b : Option ℕ) (same : Bool) → same_key key o.key ≡ same
    → (same ≡ true → ComesFrom (moments_of key seen ++ o.moment ∷ []) es b) → (same ≡ false → ComesFrom (moments_of key seen) es b)
    → ComesFrom (moments_of key (seen ++ o ∷ [])) es b
from_more key seen o es b true e one none = rw (moments_more key seen o, e) (one refl)
from_more key seen o es b false e one none = rw (moments_more key seen o, e, append-nil (moments_of key seen)) (none refl)

-- nothing changes
pub saw_same : (kept : Kept) (seen : List Observation) (o : Observation) → Saw kept seen → is_some (begun kept.open_at o.key) ≡ o.moment.bad → Saw kept (seen ++ o ∷ [])
unfolding Saw
saw_same kept seen o h e = λ (key : Key). from_more key seen o _ _ (same_key key o.key) refl
    (λ s. by_begun key (begun kept.open_at key) refl (ap (λ k. is_some (begun kept.open_at k)) (same_key_is key o.key s) ∙ e) (h key)) (λ s. h key) where
      by_begun : (key : Key) (b : Option ℕ) → begun kept.open_at key ≡ b → is_some (begun kept.open_at key) ≡ o.moment.bad → ComesFrom (moments_of key seen) (spans_of key kept.ended) (begun kept.open_at key)
          → ComesFrom (moments_of key seen ++ o.moment ∷ []) (spans_of key kept.ended) (begun kept.open_at key)
      by_begun key None is bad c = rw is (idle (moments_of key seen) o.moment (spans_of key kept.ended) (rw is at c) (sym (rw is at bad)))
      by_begun key (Some b) is bad c = rw is (goes (moments_of key seen) o.moment (spans_of key kept.ended) b (rw is at c) (sym (rw is at bad)))

-- a run begins
pub saw_begin : (kept new : Kept) (seen : List Observation) (o : Observation) → Saw kept seen → begun kept.open_at o.key ≡ None → o.moment.bad ≡ true
    → ((q : Key) → begun new.open_at q ≡ (if same_key q o.key then Some o.moment.begin else begun kept.open_at q)) → new.ended ≡ kept.ended → Saw new (seen ++ o ∷ [])
unfolding Saw
saw_begin kept new seen o h none e opened ended = λ (key : Key). rw (ended, opened key) (by_key key (same_key key o.key) refl (h key)) where
  by_key : (key : Key) (same : Bool) → same_key key o.key ≡ same → ComesFrom (moments_of key seen) (spans_of key kept.ended) (begun kept.open_at key)
      → ComesFrom (moments_of key (seen ++ o ∷ [])) (spans_of key kept.ended) (if same_key key o.key then Some o.moment.begin else begun kept.open_at key)
  by_key key true s c = rw s (from_more key seen o _ _ true s (λ t. first_bad (moments_of key seen) o.moment (spans_of key kept.ended) (rw (ap (begun kept.open_at) (same_key_is key o.key s) ∙ none) at c) e) (λ f. absurd cc))
  by_key key false s c = rw s (from_more key seen o _ _ false s (λ t. absurd cc) (λ f. c))

-- a run ends
pub saw_end : (kept new : Kept) (seen : List Observation) (o : Observation) (b : ℕ) → Saw kept seen → begun kept.open_at o.key ≡ Some b → o.moment.bad ≡ false
    → ((q : Key) → begun new.open_at q ≡ (if same_key q o.key then None else begun kept.open_at q)) → new.ended ≡ kept.ended ++ record { key = o.key; span = record { begin = b; end = o.moment.begin } } ∷ [] → Saw new (seen ++ o ∷ [])
unfolding Saw
saw_end kept new seen o b h is e opened ended = λ (key : Key). rw (ended, opened key, spans_more key kept.ended (record { key = o.key; span = record { begin = b; end = o.moment.begin } })) (by_key key (same_key key o.key) refl (h key)) where
  by_key : (key : Key) (same : Bool) → same_key key o.key ≡ same → ComesFrom (moments_of key seen) (spans_of key kept.ended) (begun kept.open_at key)
      → ComesFrom (moments_of key (seen ++ o ∷ [])) (spans_of key kept.ended ++ spans_of key (record { key = o.key; span = record { begin = b; end = o.moment.begin } } ∷ [])) (if same_key key o.key then None else begun kept.open_at key)
  by_key key true s c = rw s (from_more key seen o _ _ true s (λ t. first_good (moments_of key seen) o.moment (spans_of key kept.ended) b (rw (ap (begun kept.open_at) (same_key_is key o.key s) ∙ is) at c) e) (λ f. absurd cc))
  by_key key false s c = rw (s, append-nil (spans_of key kept.ended)) (from_more key seen o _ _ false s (λ t. absurd cc) (λ f. c))

pub saw_all : (kept : Kept) (seen : List Observation) → Saw kept seen → (q : Key) (close : ℕ) → runs_of close (moments_of q seen) ≡ spans_of q kept.ended ++ still close (begun kept.open_at q)
unfolding Saw
saw_all kept seen h q close = (h q).runs close
