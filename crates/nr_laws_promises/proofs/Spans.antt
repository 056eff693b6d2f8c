-- Runs in order, by the spans of each key.
use Rattle.std.proofs.Common.{◌≡◌, ◌⊎◌, inl, inr, ℕ, zero, suc, ◌+◌, ◌<◌, Bool, true, false, List, [], ◌∷◌, ◌++◌, length, refl, ap, sym, subst, ◌∙◌, append-nil, arith}
use Rattle.std.specs.Prelude.{filter, map, slice_index_or, IsSortedByKey}
use Rattle.std.specs.List.{AllByRecursion, flat_map}
use Rattle.std.specs.List.Sorted.{IsStrictlySortedBy}
use Rattle.std.specs.Ordering.{is_lt, ordering_reverse}
use Rattle.std.specs.declared.cmp.Ordering.{Ordering}
use Rattle.std.specs.declared.cmp.Ordering.TheVariants.{Less, Equal, Greater}
use Rattle.std.proofs.lemmas.Cmp.{tied_itself}
use Rattle.std.proofs.lemmas.List.{map-append}
use Rattle.std.proofs.lemmas.List.Elements.{filter-append}
use Rattle.nr_spec_runs.specs.Runs.{Key, Run, Span, is_run_of, key_cmp, same_key, spans_of}
use Rattle.nr_spec_promises.specs.Found.{run_at}
use Rattle.nr_laws_promises.specs.BrokenRows.{IsOneOf}
use Rattle.nr_laws_promises.proofs.Members.{all_by_one, all_from, all_one, from_flat, from_mapped, one_of_both}
use Rattle.nr_laws_promises.proofs.Keys.{apart_after, apart_before, equal_keys, keys_total, same_itself, same_means}

-- ---- the spans of keys, one after another

pub spans_append : (key : Key) (xs ys : List Run) → spans_of key (xs ++ ys) ≡ spans_of key xs ++ spans_of key ys
spans_append key xs ys =
    ap (map (λ (r : Run). r.span)) (filter-append (is_run_of key) xs ys) ∙ map-append (λ (r : Run). r.span) (filter (is_run_of key) xs) (filter (is_run_of key) ys)

own_spans : (key k : Key) (spans : List Span) → same_key key k ≡ true → spans_of key (map (run_at k) spans) ≡ spans
own_spans key k [] h = refl
own_spans key k (s ∷ spans) h = rw h (ap (λ l. s ∷ l) (own_spans key k spans h))

other_spans : (key k : Key) (spans : List Span) → same_key key k ≡ false → spans_of key (map (run_at k) spans) ≡ []
other_spans key k [] h = refl
other_spans key k (s ∷ spans) h = rw h (other_spans key k spans h)

-- the runs of keys
abbrev pub of_keys : (Key → List Span) → List Key → List Run
of_keys f keys = flat_map (λ (k : Key). map (run_at k) (f k)) keys

both : (a b c d : List Span) → a ≡ b → c ≡ d → a ++ c ≡ b ++ d
both a b c d h k = ap (λ l. l ++ c) h ∙ ap (λ l. b ++ l) k

pub spans_apart : (f : Key → List Span) (key : Key) (keys : List Key) → AllByRecursion (λ k. same_key key k ≡ false) keys → spans_of key (of_keys f keys) ≡ []
spans_apart f key [] h = refl
spans_apart f key (k ∷ keys) h =
    spans_append key (map (run_at k) (f k)) (of_keys f keys) ∙ both _ _ _ _ (other_spans key k (f k) h.0) (spans_apart f key keys h.1)

pub spans_there : (f : Key → List Span) (key : Key) (keys : List Key) → IsStrictlySortedBy key_cmp keys → IsOneOf key keys → spans_of key (of_keys f keys) ≡ f key
unfolding IsStrictlySortedBy
spans_there f key [] h one = absurd one
spans_there f key (k ∷ keys) h (inl e) =
    let none : AllByRecursion (λ l. same_key key l ≡ false) keys =
    all_from (λ l. key_cmp k l ≡ Less) (λ l. same_key key l ≡ false) keys (λ l less. apart_before key l (ap (λ x. key_cmp x l) e ∙ less)) h.0 in
    spans_append key (map (run_at k) (f k)) (of_keys f keys)
    ∙ both _ _ _ _ (own_spans key k (f k) (ap (λ x. same_key key x) (sym e) ∙ same_itself key)) (spans_apart f key keys none)
    ∙ append-nil (f k) ∙ ap f (sym e)
spans_there f key (k ∷ keys) h (inr one) =
    spans_append key (map (run_at k) (f k)) (of_keys f keys)
    ∙ both _ _ _ _ (other_spans key k (f k) (apart_after key k (all_one (λ l. key_cmp k l ≡ Less) key keys h.0 one))) (spans_there f key keys h.1 one)

-- ---- in order, no element less than one before it

abbrev IsNoLess : Key → Run → Type 0
IsNoLess k r = is_lt (key_cmp r.key k) ≡ false

abbrev pub Rises : List Run → Type 0
Rises [] = Unit {0}
Rises (r ∷ runs) = AllByRecursion (IsNoLess r.key) runs × Rises runs

rises_append : (xs ys : List Run) → Rises xs → Rises ys → ((x y : Run) → IsOneOf x xs → IsOneOf y ys → IsNoLess x.key y) → Rises (xs ++ ys)
rises_append [] ys h k apart = k
rises_append (x ∷ xs) ys h k apart =
    (all_by_one (IsNoLess x.key) (xs ++ ys) (λ z one. by z (one_of_both z xs ys one)), rises_append xs ys h.1 k (λ z y one other. apart z y (inr one) other))
  where
    by : (z : Run) → IsOneOf z xs ⊎ IsOneOf z ys → IsNoLess x.key z
    by z (inl one) = all_one (IsNoLess x.key) z xs h.0 one
    by z (inr one) = apart x z (inl refl) one

not_less : (k : Key) → is_lt (key_cmp k k) ≡ false
not_less k = ap is_lt (tied_itself keys_total k)

rises_one : (k : Key) (spans : List Span) → Rises (map (run_at k) spans)
rises_one k [] = tt
rises_one k (s ∷ spans) = (
  all_by_one (IsNoLess k) (map (run_at k) spans) (λ z one.
      let found = from_mapped (run_at k) z spans one in ap (λ (r : Run). is_lt (key_cmp r.key k)) found.1 ∙ not_less k),
  rises_one k spans,
)

pub rises_all : (f : Key → List Span) (keys : List Key) → IsStrictlySortedBy key_cmp keys → Rises (of_keys f keys)
unfolding IsStrictlySortedBy
rises_all f [] h = tt
rises_all f (k ∷ keys) h =
    rises_append (map (run_at k) (f k)) (of_keys f keys) (rises_one k (f k)) (rises_all f keys h.1) (λ x y one other.
    let here = from_mapped (run_at k) x (f k) one in
    let there = from_flat (λ (l : Key). map (run_at l) (f l)) y keys other in
    let that = from_mapped (run_at there.0) y (f there.0) there.2 in
    ap (λ (r : Run). is_lt (key_cmp y.key r.key)) here.1 ∙ ap (λ (r : Run). is_lt (key_cmp r.key k)) that.1
    ∙ ap is_lt (keys_total.antisymm there.0 k ∙ ap ordering_reverse (all_one (λ l. key_cmp k l ≡ Less) there.0 keys h.0 there.1)))

-- as std says it
pub sorted_by_places : (runs : List Run) → Rises runs → IsSortedByKey (λ (r : Run). r.key) key_cmp runs
sorted_by_places runs h = λ (k : ℕ) (d : Run) low lt. at runs k d h lt
  where
    at : (xs : List Run) (k : ℕ) (d : Run) → Rises xs → k + 1 < length xs → is_lt (key_cmp (slice_index_or xs (k + 1) d).key (slice_index_or xs k d).key) ≡ false
    at [] k d h lt = absurd (omega (arith, lt))
    at (x ∷ []) k d h lt = absurd (omega (arith, lt))
    at (x ∷ y ∷ xs) zero d h lt = h.0.0
    at (x ∷ y ∷ xs) (suc k) d h lt =
        let e : suc k + 1 ≡ suc (k + 1) = omega arith in
        subst (λ n. is_lt (key_cmp (slice_index_or (x ∷ y ∷ xs) n d).key (slice_index_or (y ∷ xs) k d).key) ≡ false) (sym e) (at (y ∷ xs) k d h.1 (omega (arith, lt)))

no_later : (k l m : Key) → is_lt (key_cmp l k) ≡ false → is_lt (key_cmp m l) ≡ false → is_lt (key_cmp m k) ≡ false
no_later k l m h g = by (key_cmp m k) refl (key_cmp l k) refl (key_cmp m l) refl h g
  where
    less : {A : Type 0} (o : Ordering) → is_lt Less ≡ false → A
    less o e = absurd cc

    -- m before k and k no later than l: m before l
    by : (a : Ordering) → key_cmp m k ≡ a → (b : Ordering) → key_cmp l k ≡ b → (c : Ordering) → key_cmp m l ≡ c → is_lt b ≡ false → is_lt c ≡ false → is_lt a ≡ false
    by Equal ea b eb c ec hb hc = refl
    by Greater ea b eb c ec hb hc = refl
    by Less ea Less eb c ec hb hc = less Less hb
    by Less ea Equal eb c ec hb hc =
        let e : key_cmp m l ≡ Less = keys_total.antisymm m l ∙ ap ordering_reverse (keys_total.congr l k m eb ∙ keys_total.antisymm k m ∙ ap ordering_reverse ea) in
        less Less (ap is_lt (sym e ∙ ec) ∙ hc)
    by Less ea Greater eb c ec hb hc =
        let e : key_cmp m l ≡ Less = keys_total.trans m k l ea (keys_total.antisymm k l ∙ ap ordering_reverse eb) in
        less Less (ap is_lt (sym e ∙ ec) ∙ hc)

pub rises_by_places : (runs : List Run) → IsSortedByKey (λ (r : Run). r.key) key_cmp runs → Rises runs
rises_by_places [] h = tt
rises_by_places (x ∷ []) h = (tt, tt)
rises_by_places (x ∷ y ∷ runs) h =
    let rest : Rises (y ∷ runs) = rises_by_places (y ∷ runs) (λ (k : ℕ) (d : Run) low lt.
    let e : suc k + 1 ≡ suc (k + 1) = omega arith in
    subst (λ n. is_lt (key_cmp (slice_index_or (x ∷ y ∷ runs) n d).key (slice_index_or (y ∷ runs) k d).key) ≡ false) e (h (suc k) d (omega arith) (omega (arith, lt)))) in
    let next : is_lt (key_cmp y.key x.key) ≡ false = h 0 x (omega arith) (omega arith) in
    ((next, all_from (IsNoLess y.key) (IsNoLess x.key) runs (λ z e. no_later x.key y.key z.key next e) rest.0), rest)

-- ---- no others have these spans

no_spans : (key : Key) (runs : List Run) → AllByRecursion (λ (r : Run). same_key key r.key ≡ false) runs → spans_of key runs ≡ []
no_spans key [] h = refl
no_spans key (r ∷ runs) h = rw h.0 (no_spans key runs h.1)

first_span : (key : Key) (r : Run) (runs : List Run) → same_key key r.key ≡ true → spans_of key (r ∷ runs) ≡ r.span ∷ spans_of key runs
first_span key r runs h = rw h refl

other_span : (key : Key) (r : Run) (runs : List Run) → same_key key r.key ≡ false → spans_of key (r ∷ runs) ≡ spans_of key runs
other_span key r runs h = rw h refl

some_none : {A : Type 0} (s : Span) (spans : List Span) → s ∷ spans ≡ [] → A
some_none s spans e = absurd cc

-- a run that stands before others and all that follow has no span among them
not_there : (x y : Run) (ys : List Run) → key_cmp x.key y.key ≡ Less → AllByRecursion (IsNoLess y.key) ys → spans_of x.key (y ∷ ys) ≡ []
not_there x y ys less h =
    no_spans x.key (y ∷ ys) (apart_before x.key y.key less, all_from (IsNoLess y.key) (λ (r : Run). same_key x.key r.key ≡ false) ys (λ r e. later r e) h)
  where
    by : (r : Run) → (o : Ordering) → key_cmp r.key y.key ≡ o → is_lt o ≡ false → same_key x.key r.key ≡ false
    by r Less e k = absurd cc
    by r Equal e k = apart_before x.key r.key (ap (key_cmp x.key) (equal_keys r.key y.key e) ∙ less)
    by r Greater e k = apart_before x.key r.key (keys_total.trans x.key y.key r.key less (keys_total.antisymm y.key r.key ∙ ap ordering_reverse e))

    later : (r : Run) → IsNoLess y.key r → same_key x.key r.key ≡ false
    later r e = by r (key_cmp r.key y.key) refl e

head_is : (s t : Span) (ss ts : List Span) → s ∷ ss ≡ t ∷ ts → s ≡ t
head_is s t ss ts e = cc

tail_is : (s t : Span) (ss ts : List Span) → s ∷ ss ≡ t ∷ ts → ss ≡ ts
tail_is s t ss ts e = cc

pub only_ones : (xs ys : List Run) → Rises xs → Rises ys → ((key : Key) → spans_of key xs ≡ spans_of key ys) → xs ≡ ys
only_ones [] [] h k same = refl
only_ones [] (y ∷ ys) h k same = some_none y.span (spans_of y.key ys) (sym (first_span y.key y ys (same_itself y.key)) ∙ sym (same y.key))
only_ones (x ∷ xs) [] h k same = some_none x.span (spans_of x.key xs) (sym (first_span x.key x xs (same_itself x.key)) ∙ same x.key)
only_ones (x ∷ xs) (y ∷ ys) h k same = by (key_cmp x.key y.key) refl (only_ones xs ys h.1 k.1)
  where
    by : (o : Ordering) → key_cmp x.key y.key ≡ o → (((key : Key) → spans_of key xs ≡ spans_of key ys) → xs ≡ ys) → x ∷ xs ≡ y ∷ ys
    by Less e ih = some_none x.span (spans_of x.key xs) (sym (first_span x.key x xs (same_itself x.key)) ∙ same x.key ∙ not_there x y ys e k.0)
    by Greater e ih =
        some_none y.span (spans_of y.key ys)
        (sym (first_span y.key y ys (same_itself y.key)) ∙ sym (same y.key) ∙ not_there y x xs (keys_total.antisymm y.key x.key ∙ ap ordering_reverse e) h.0)
    by Equal e ih =
        let one : x.key ≡ y.key = equal_keys x.key y.key e in
        let there : same_key x.key y.key ≡ true = ap (same_key x.key) (sym one) ∙ same_itself x.key in
        let spans : x.span ∷ spans_of x.key xs ≡ y.span ∷ spans_of x.key ys =
        sym (first_span x.key x xs (same_itself x.key)) ∙ same x.key ∙ first_span x.key y ys there in
        let span : x.span ≡ y.span = head_is x.span y.span (spans_of x.key xs) (spans_of x.key ys) spans in
        let rest : xs ≡ ys = ih (λ (key : Key). by_key key (same_key key x.key) refl one (tail_is x.span y.span (spans_of x.key xs) (spans_of x.key ys) spans)) in
        λ i. record { key = one i; span = span i } ∷ rest i
      where
        by_key : (key : Key) (b : Bool) → same_key key x.key ≡ b → x.key ≡ y.key → spans_of x.key xs ≡ spans_of x.key ys → spans_of key xs ≡ spans_of key ys
        by_key key true s one tails = let is : key ≡ x.key = same_means key x.key s in subst (λ q. spans_of q xs ≡ spans_of q ys) (sym is) tails
        by_key key false s one tails =
            sym (other_span key x xs s) ∙ same key ∙ other_span key y ys (ap (same_key key) (sym one) ∙ s)
