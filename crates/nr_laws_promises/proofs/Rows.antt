-- The broken runs are the longest rows of bad moments that last long enough, each once and in order.
use Rattle.std.proofs.Common.{◌≡◌, ◌==◌, ◌⊎◌, inl, inr, ◌↔◌, ℕ, suc, ◌+◌, ◌*◌, eqb-true, leb-true, le-leb, Bool, true, false, ◌&&◌, not, List, [], ◌∷◌, ◌++◌, length, Option, Some, None, refl, ap, sym, subst, ◌∙◌, arith}
use Rattle.std.specs.Prelude.{filter, map, slice_get, if◌then◌else◌}
use Rattle.std.specs.List.{flat_map, list_any}
use Rattle.std.specs.List.Sorted.{IsStrictlySortedBy}
use Rattle.std.specs.Cmp.{IsTotalOrder, nat_cmp_total}
use Rattle.std.specs.Ordering.{nat_cmp, ordering_then}
use Rattle.std.specs.declared.cmp.Ordering.{Ordering}
use Rattle.std.proofs.lemmas.Cmp.{on_total, then_total, tied_itself}
use Rattle.std.proofs.lemmas.List.{map-append}
use Rattle.std.proofs.lemmas.List.Kept.{IsStrictlySortedBy-filter}
use Rattle.nr_spec_bgp.specs.Prefixes.{Cidr}
use Rattle.nr_spec_log.specs.Chain.{LogEntry}
use Rattle.nr_spec_history.specs.Conflicts.{Period}
use Rattle.nr_spec_routes.specs.Keys.{is_named}
use Rattle.nr_spec_typing.specs.declared.text.Promise.{Promise}
use Rattle.nr_spec_truth.specs.Truths.{Truth}
use Rattle.nr_spec_report.specs.Wrong.{Base}
use Rattle.nr_spec_runs.specs.Runs.{Key, Run, Span, key_cmp, same_key}
use Rattle.nr_spec_promises.specs.Files.{PromiseFile, promise_of}
use Rattle.nr_spec_promises.specs.Moments.{Mark, View, moments}
use Rattle.nr_spec_promises.specs.Broken.{fails, is_bad, is_broken, is_file, is_judged, lasts, promise_at}
use Rattle.nr_spec_promises.specs.Found.{broken_runs, run_at}
use Rattle.nr_laws_promises.specs.BrokenRows.{AreBrokenRows, IsBadAt, IsBrokenRow, IsJudged, IsOneOf, IsPromiseAt, PlacedRun, place_cmp}
use Rattle.nr_laws_promises.proofs.Members.{all_from, all_one, filtered, from_flat, from_mapped, kept_sorted, one_flat, one_mapped, one_right, passed, sorted_flat, sorted_same}
use Rattle.nr_laws_promises.proofs.Keys.{keys_total, named_is, one_of_keys, among_keys}
use Rattle.nr_laws_promises.proofs.Sight.{IsGood, good_out_of_sight}
use Rattle.nr_laws_promises.proofs.Spans.{of_keys}
use Rattle.nr_laws_promises.proofs.Exactly.{ascend_over, keys_over, spans_over}
use Rattle.nr_laws_promises.proofs.Places.{Passes, Row, by_place, first_bad, is_row, last_bad, places_ascend, row_is, rows_from, span_of, spans_are}

-- ---- bad, in a reader's words

both : (a b : Bool) → (a && b) ≡ true → (a ≡ true) × (b ≡ true)
both true true h = (refl, refl)
both true false h = absurd cc
both false b h = absurd cc

both_true : (a b : Bool) → a ≡ true → b ≡ true → (a && b) ≡ true
both_true a b h k = ap (λ t. t && b) h ∙ k

clash : {A : Type 0} (b : Bool) → b ≡ true → b ≡ false → A
clash true h e = absurd cc
clash false h e = absurd cc

belongs_to : (ruling : Option ℕ) (file : ℕ) → is_file ruling file ≡ true → ruling ≡ Some file
belongs_to None file h = absurd cc
belongs_to (Some n) file h = ap (λ k. Some k) (eqb-true n file h)

same_number : (n : ℕ) → (n == n) ≡ true
same_number n = grind arith

rules : (ruling : Option ℕ) (file : ℕ) → ruling ≡ Some file → is_file ruling file ≡ true
rules ruling file h = ap (λ o. is_file o file) h ∙ same_number file

not_true : (b : Bool) → not b ≡ true → b ≡ false
not_true true h = absurd cc
not_true false h = refl

some_there : (n : ℕ) → (suc n == 0) ≡ false
some_there n = grind arith

judged_is : (promise : Promise) (view : View) (p : Cidr) → is_judged promise view p ≡ true → IsJudged promise view p
judged_is promise view p h = by promise.at refl h
  where
    by : (at : List Cidr) → promise.at ≡ at → (if length at == 0 then view.stands p else is_named at p) ≡ true
        → ((promise.at ≡ []) × (view.stands p ≡ true)) ⊎ IsOneOf p promise.at
    by [] e h = inl (e, h)
    by (q ∷ at) e h =
        let named : is_named (q ∷ at) p ≡ true = sym (ap (λ b. if b then view.stands p else is_named (q ∷ at) p) (some_there (length at))) ∙ h in
        inr (subst (IsOneOf p) (sym e) ((named_is p (q ∷ at)).0 named))

is_judged_where : (promise : Promise) (view : View) (p : Cidr) → IsJudged promise view p → is_judged promise view p ≡ true
is_judged_where promise view p (inl h) = ap (λ (at : List Cidr). if length at == 0 then view.stands p else is_named at p) h.0 ∙ h.1
is_judged_where promise view p (inr h) = by promise.at h
  where
    by : (at : List Cidr) → IsOneOf p at → (if length at == 0 then view.stands p else is_named at p) ≡ true
    by [] h = absurd h
    by (q ∷ at) h = ap (λ b. if b then view.stands p else is_named (q ∷ at) p) (some_there (length at)) ∙ (named_is p (q ∷ at)).1 h

bad_is : (files : List PromiseFile) (truth : Truth) (key : Key) (promise : Promise) (m : Mark) → promise_at files key ≡ Some promise
    → is_bad files truth m.view key ≡ true → IsBadAt truth key promise m
bad_is files truth key promise m is h =
    let parts = both (is_file m.view.file key.file) (is_judged promise m.view key.prefix && not (truth key.file key.promise (m.view.scene key.prefix)))
    (sym (ap (fails truth m.view key) is) ∙ h) in
    let more = both (is_judged promise m.view key.prefix) (not (truth key.file key.promise (m.view.scene key.prefix))) parts.1 in
    record {
      belongs = belongs_to m.view.file key.file parts.0;
      judged = judged_is promise m.view key.prefix more.0;
      untrue = not_true (truth key.file key.promise (m.view.scene key.prefix)) more.1;
    }

is_bad_where : (files : List PromiseFile) (truth : Truth) (key : Key) (promise : Promise) (m : Mark) → promise_at files key ≡ Some promise
    → IsBadAt truth key promise m → is_bad files truth m.view key ≡ true
is_bad_where files truth key promise m is h =
    ap (fails truth m.view key) is
    ∙ both_true (is_file m.view.file key.file) (is_judged promise m.view key.prefix && not (truth key.file key.promise (m.view.scene key.prefix)))
    (rules m.view.file key.file h.belongs)
    (both_true (is_judged promise m.view key.prefix) (not (truth key.file key.promise (m.view.scene key.prefix)))
    (is_judged_where promise m.view key.prefix h.judged) (ap not h.untrue))

-- ---- the promise

is_there : (files : List PromiseFile) (key : Key) (promise : Promise) → promise_at files key ≡ Some promise → IsPromiseAt files key promise
is_there files key promise h = by (slice_get files key.file) refl h
  where
    by : (o : Option PromiseFile) → slice_get files key.file ≡ o → promise_of o key.promise ≡ Some promise → IsPromiseAt files key promise
    by None e h = absurd cc
    by (Some f) e h = record { file = f; of_files = e; of_file = h }

promise_there : (files : List PromiseFile) (key : Key) (promise : Promise) → IsPromiseAt files key promise → promise_at files key ≡ Some promise
promise_there files key promise h = ap (λ (o : Option PromiseFile). promise_of o key.promise) h.of_files ∙ h.of_file

-- where a moment is bad a promise is there
promise_of_bad : (files : List PromiseFile) (truth : Truth) (key : Key) (m : Mark) → is_bad files truth m.view key ≡ true
    → (promise : Promise) × (promise_at files key ≡ Some promise)
promise_of_bad files truth key m h = by (promise_at files key) refl h
  where
    by : (o : Option Promise) → promise_at files key ≡ o → fails truth m.view key o ≡ true → (promise : Promise) × (promise_at files key ≡ Some promise)
    by None e h = absurd cc
    by (Some promise) e h = (promise, e)

pub bad_where : (files : List PromiseFile) (truth : Truth) (key : Key) (m : Mark)
    → (is_bad files truth m.view key ≡ true) ↔ ((promise : Promise) × IsPromiseAt files key promise × IsBadAt truth key promise m)
bad_where files truth key m = (
  λ (h : is_bad files truth m.view key ≡ true).
      let found = promise_of_bad files truth key m h in
      (found.0, is_there files key found.0 found.1, bad_is files truth key found.0 m found.1 h),
  λ (h : (promise : Promise) × IsPromiseAt files key promise × IsBadAt truth key promise m).
      is_bad_where files truth key h.0 m (promise_there files key h.0 h.1) h.2,
)

-- ---- of a key

abbrev pub test_of : List PromiseFile → Truth → Key → Mark → Bool
test_of files truth key m = is_bad files truth m.view key

abbrev pub placed_at : Key → ℕ × Span → PlacedRun
placed_at key q = record { run = run_at key q.1; place = q.0 }

abbrev pub is_kept : List PromiseFile → Key → ℕ × Span → Bool
is_kept files key q = is_broken files key q.1

abbrev pub kept_rows : List PromiseFile → Truth → List Mark → ℕ → Key → List (ℕ × Span)
kept_rows files truth marks to key = filter (is_kept files key) (rows_from (test_of files truth key) false 0 to marks)

abbrev pub rows_at : List PromiseFile → Truth → List Mark → ℕ → Key → List PlacedRun
rows_at files truth marks to key = map (placed_at key) (kept_rows files truth marks to key)

abbrev pub run_in : PlacedRun → Run
run_in p = p.run

kept_spans : (key : Key) (test : Span → Bool) (qs : List (ℕ × Span)) → map run_in (map (placed_at key) (filter (λ (q : ℕ × Span). test q.1) qs)) ≡ map (run_at key) (filter test (map span_of qs))
kept_spans key test [] = refl
kept_spans key test (q ∷ qs) = by (test q.1) (kept_spans key test qs)
  where
    by : (b : Bool) → map run_in (map (placed_at key) (filter (λ (r : ℕ × Span). test r.1) qs)) ≡ map (run_at key) (filter test (map span_of qs))
        → map run_in (map (placed_at key) (if b then q ∷ filter (λ (r : ℕ × Span). test r.1) qs else filter (λ (r : ℕ × Span). test r.1) qs))
        ≡ map (run_at key) (if b then q.1 ∷ filter test (map span_of qs) else filter test (map span_of qs))
    by true ih = ap (λ l. run_at key q.1 ∷ l) ih
    by false ih = ih

runs_at : (files : List PromiseFile) (truth : Truth) (marks : List Mark) (to : ℕ) (key : Key)
    → map run_in (rows_at files truth marks to key) ≡ map (run_at key) (spans_over files truth marks to key)
runs_at files truth marks to key =
    kept_spans key (is_broken files key) (rows_from (test_of files truth key) false 0 to marks)
    ∙ ap (λ (l : List Span). map (run_at key) (filter (is_broken files key) l)) (spans_are (test_of files truth key) false 0 to marks)

runs_are : (files : List PromiseFile) (truth : Truth) (marks : List Mark) (to : ℕ) (keys : List Key)
    → map run_in (flat_map (rows_at files truth marks to) keys) ≡ of_keys (spans_over files truth marks to) keys
runs_are files truth marks to [] = refl
runs_are files truth marks to (key ∷ keys) =
    map-append run_in (rows_at files truth marks to key) (flat_map (rows_at files truth marks to) keys)
    ∙ ap (λ (l : List Run). l ++ map run_in (flat_map (rows_at files truth marks to) keys)) (runs_at files truth marks to key)
    ∙ ap (λ (l : List Run). map (run_at key) (spans_over files truth marks to key) ++ l) (runs_are files truth marks to keys)

-- ---- in order

places_total : IsTotalOrder place_cmp
places_total = then_total (on_total (λ (p : PlacedRun). p.run.key) keys_total) (on_total (λ (p : PlacedRun). p.place) nat_cmp_total)

rows_ascend : (files : List PromiseFile) (truth : Truth) (marks : List Mark) (to : ℕ) (keys : List Key) → IsStrictlySortedBy key_cmp keys
    → IsStrictlySortedBy place_cmp (flat_map (rows_at files truth marks to) keys)
rows_ascend files truth marks to keys h =
    sorted_flat key_cmp place_cmp (rows_at files truth marks to) keys h
    (λ (k : Key). kept_sorted by_place place_cmp (placed_at k) (kept_rows files truth marks to k)
    (λ q r less. ap (λ (o : Ordering). ordering_then o (nat_cmp q.0 r.0)) (tied_itself keys_total k) ∙ less)
    (IsStrictlySortedBy-filter by_place (is_kept files k) (rows_from (test_of files truth k) false 0 to marks) (places_ascend (test_of files truth k) false 0 to marks)))
    (λ k l x y less one other.
    let here = from_mapped (placed_at k) x (kept_rows files truth marks to k) one in
    let there = from_mapped (placed_at l) y (kept_rows files truth marks to l) other in
    ap (λ (p : PlacedRun). place_cmp p y) here.1 ∙ ap (λ (p : PlacedRun). place_cmp (placed_at k here.0) p) there.1
    ∙ ap (λ (o : Ordering). ordering_then o (nat_cmp here.0.0 there.0.0)) less)

-- ---- each is a row

last_more : (test : Mark → Bool) (b : Bool) (ms : List Mark) (m : Mark) → last_bad test b (ms ++ m ∷ []) ≡ test m
last_more test b [] m = refl
last_more test b (x ∷ ms) m = last_more test (test x) ms m

-- none, or a last one
record Last (ms : List Mark) : Type 0 where
  earlier : List Mark
  m : Mark
  is : ms ≡ earlier ++ m ∷ []

last_of : (ms : List Mark) → (ms ≡ []) ⊎ Last ms
last_of [] = inl refl
last_of (x ∷ ms) = by (last_of ms)
  where
    by : (ms ≡ []) ⊎ Last ms → (x ∷ ms ≡ []) ⊎ Last (x ∷ ms)
    by (inl none) = inr (record { earlier = []; m = x; is = ap (λ l. x ∷ l) none })
    by (inr some) = inr (record { earlier = x ∷ some.earlier; m = some.m; is = ap (λ l. x ∷ l) some.is })

row_of : (files : List PromiseFile) (truth : Truth) (marks : List Mark) (to : ℕ) (key : Key) (q : ℕ × Span)
    → Row (test_of files truth key) false 0 to marks q → is_kept files key q ≡ true → IsBrokenRow files truth marks to (placed_at key q)
row_of files truth marks to key q r kept =
    let there = promise_of_bad files truth key r.first r.bad.0 in
    let promise : Promise = there.0 in
    let is : promise_at files key ≡ Some promise = there.1 in
    let held = is_there files key promise is in
    record {
      promise = promise;
      there = held;
      front = r.front;
      first = r.first;
      row = r.row;
      back = r.back;
      split = r.split;
      placed = let e = r.placed in omega (arith, e);
      bad = all_from (Passes (test_of files truth key)) (IsBadAt truth key promise) (r.first ∷ r.row) (λ m h. bad_is files truth key promise m is h) r.bad;
      before = λ (earlier : List Mark) (m : Mark) last bad.
          clash (is_bad files truth m.view key) (is_bad_where files truth key promise m is bad)
          (sym (last_more (test_of files truth key) false earlier m) ∙ sym (ap (last_bad (test_of files truth key) false) last) ∙ r.left);
      after = λ (m : Mark) (later : List Mark) next bad.
          clash (is_bad files truth m.view key) (is_bad_where files truth key promise m is bad)
          (sym (ap (first_bad (test_of files truth key)) next) ∙ r.right);
      begins = r.begins;
      ends = r.ends;
      lasts = leb-true (q.1.begin + promise.grace * 1000000) q.1.end (sym (ap (λ o. lasts o q.1) is) ∙ kept);
    }

good_or_bad : {A : Type 0} (b : Bool) → (b ≡ true → A) → (b ≡ false → A) → A
good_or_bad true f g = f refl
good_or_bad false f g = g refl

not_bad : (b : Bool) → (b ≡ true → ⊥) → b ≡ false
not_bad true h = absurd (h refl)
not_bad false h = refl

promise_is : (files : List PromiseFile) (truth : Truth) (marks : List Mark) (to : ℕ) (p : PlacedRun) (r : IsBrokenRow files truth marks to p) → promise_at files p.run.key ≡ Some r.promise
promise_is files truth marks to p r = promise_there files p.run.key r.promise r.there

of_row : (files : List PromiseFile) (truth : Truth) (marks : List Mark) (to : ℕ) (p : PlacedRun) → IsBrokenRow files truth marks to p
    → Row (test_of files truth p.run.key) false 0 to marks (p.place, p.run.span)
of_row files truth marks to p r =
    let key : Key = p.run.key in
    let is : promise_at files key ≡ Some r.promise = promise_is files truth marks to p r in
    record {
      front = r.front;
      first = r.first;
      row = r.row;
      back = r.back;
      split = r.split;
      placed = let e = r.placed in omega (arith, e);
      bad = all_from (IsBadAt truth key r.promise) (Passes (test_of files truth key)) (r.first ∷ r.row) (λ m h. is_bad_where files truth key r.promise m is h) r.bad;
      left = left r.front (last_of r.front) (λ m h. bad_is files truth key r.promise m is h) r.before;
      right = right r.back (λ m h. bad_is files truth key r.promise m is h) r.after;
      begins = r.begins;
      ends = r.ends;
    }
  where
    test : Mark → Bool
    test = test_of files truth p.run.key

    Bad : Mark → Type 0
    Bad m = IsBadAt truth p.run.key r.promise m

    left : (front : List Mark) → (front ≡ []) ⊎ Last front → ((m : Mark) → test m ≡ true → Bad m)
        → ((earlier : List Mark) (m : Mark) → front ≡ earlier ++ m ∷ [] → Bad m → ⊥) → last_bad test false front ≡ false
    left front (inl none) bad before = ap (last_bad test false) none
    left front (inr some) bad before =
        ap (last_bad test false) some.is ∙ last_more test false some.earlier some.m ∙ not_bad (test some.m) (λ h. before some.earlier some.m some.is (bad some.m h))

    right : (back : List Mark) → ((m : Mark) → test m ≡ true → Bad m) → ((m : Mark) (later : List Mark) → back ≡ m ∷ later → Bad m → ⊥) → first_bad test back ≡ false
    right [] bad after = refl
    right (m ∷ later) bad after = not_bad (test m) (λ h. after m later refl (bad m h))

-- ---- over a period

abbrev pub rows_over : List PromiseFile → Truth → Base → Period → List LogEntry → List PlacedRun
rows_over files truth base period entries = flat_map (rows_at files truth (moments files base period entries) period.to) (keys_over files base period entries)

over_is_row : (files : List PromiseFile) (truth : Truth) (base : Base) (period : Period) (entries : List LogEntry) (p : PlacedRun)
    → IsOneOf p (rows_over files truth base period entries) → IsBrokenRow files truth (moments files base period entries) period.to p
over_is_row files truth base period entries p one =
    let marks : List Mark = moments files base period entries in
    let found = from_flat (rows_at files truth marks period.to) p (keys_over files base period entries) one in
    let key : Key = found.0 in
    let row = from_mapped (placed_at key) p (kept_rows files truth marks period.to key) found.2 in
    let kept = filtered (is_kept files key) row.0 (rows_from (test_of files truth key) false 0 period.to marks) row.2 in
    subst (IsBrokenRow files truth marks period.to) (sym row.1)
    (row_of files truth marks period.to key row.0 (is_row (test_of files truth key) false 0 period.to marks row.0 kept.0) kept.1)

row_is_over : (files : List PromiseFile) (truth : Truth) (base : Base) (period : Period) (entries : List LogEntry) (p : PlacedRun)
    → IsBrokenRow files truth (moments files base period entries) period.to p → IsOneOf p (rows_over files truth base period entries)
row_is_over files truth base period entries p r = one_flat (rows_at files truth marks period.to) key p keys seen here
  where
    marks : List Mark
    marks = moments files base period entries

    key : Key
    key = p.run.key

    keys : List Key
    keys = keys_over files base period entries

    is : promise_at files key ≡ Some r.promise
    is = promise_is files truth marks period.to p r

    first_there : IsOneOf r.first marks
    first_there = subst (IsOneOf r.first) (sym r.split) (one_right r.first r.front (r.first ∷ (r.row ++ r.back)) (inl refl))

    first_bad_ : is_bad files truth r.first.view key ≡ true
    first_bad_ = is_bad_where files truth key r.promise r.first is r.bad.0

    seen : IsOneOf key keys
    seen = good_or_bad (list_any (same_key key) keys) (one_of_keys key keys) (λ (none : list_any (same_key key) keys ≡ false).
        clash (is_bad files truth r.first.view key) first_bad_
        (all_one (IsGood files truth key) r.first marks
        (good_out_of_sight files truth base period entries key (λ (one : IsOneOf key keys). clash (list_any (same_key key) keys) (among_keys key keys one) none)) first_there))

    kept : is_kept files key (p.place, p.run.span) ≡ true
    kept = ap (λ o. lasts o p.run.span) is ∙ le-leb (p.run.span.begin + r.promise.grace * 1000000) p.run.span.end r.lasts

    here : IsOneOf p (rows_at files truth marks period.to key)
    here =
        one_mapped (placed_at key) (p.place, p.run.span) (kept_rows files truth marks period.to key)
        (passed (is_kept files key) (p.place, p.run.span) (rows_from (test_of files truth key) false 0 period.to marks) kept
        (row_is (test_of files truth key) false 0 period.to marks (p.place, p.run.span) (of_row files truth marks period.to p r)))

-- they are such
pub are_rows : (files : List PromiseFile) (truth : Truth) (base : Base) (period : Period) (entries : List LogEntry)
    → AreBrokenRows files truth (moments files base period entries) period.to (broken_runs files truth base period entries)
unfolding broken_runs
are_rows files truth base period entries = record {
  rows = rows_over files truth base period entries;
  runs = sym (runs_are files truth (moments files base period entries) period.to (keys_over files base period entries));
  order = rows_ascend files truth (moments files base period entries) period.to (keys_over files base period entries) (ascend_over files base period entries);
  each = λ (p : PlacedRun). (over_is_row files truth base period entries p, row_is_over files truth base period entries p);
}

-- and the only ones
pub rows_are : (files : List PromiseFile) (truth : Truth) (base : Base) (period : Period) (entries : List LogEntry) (found : List Run)
    → AreBrokenRows files truth (moments files base period entries) period.to found ↔ (found ≡ broken_runs files truth base period entries)
rows_are files truth base period entries found = (
  λ (h : AreBrokenRows files truth (moments files base period entries) period.to found).
      let those = are_rows files truth base period entries in
      let same : h.rows ≡ those.rows = sorted_same places_total h.rows those.rows h.order those.order (λ (p : PlacedRun). (
        λ (one : IsOneOf p h.rows). (those.each p).1 ((h.each p).0 one),
        λ (one : IsOneOf p those.rows). (h.each p).1 ((those.each p).0 one),
      )) in
      h.runs ∙ ap (map run_in) same ∙ sym those.runs,
  λ (same : found ≡ broken_runs files truth base period entries).
      subst (AreBrokenRows files truth (moments files base period entries) period.to) (sym same) (are_rows files truth base period entries),
)

-- which they are
pub members_are : (files : List PromiseFile) (truth : Truth) (base : Base) (period : Period) (entries : List LogEntry) (run : Run)
    → IsOneOf run (broken_runs files truth base period entries)
    ↔ ((place : ℕ) × IsBrokenRow files truth (moments files base period entries) period.to (record { run = run; place = place }))
members_are files truth base period entries run = (
  λ (one : IsOneOf run (broken_runs files truth base period entries)).
      let found = from_mapped run_in run those.rows (subst (IsOneOf run) those.runs one) in (
        found.0.place,
        subst (λ (r : Run). IsBrokenRow files truth (moments files base period entries) period.to (record { run = r; place = found.0.place })) (sym found.1)
            ((those.each found.0).0 found.2),
      ),
  λ (h : (place : ℕ) × IsBrokenRow files truth (moments files base period entries) period.to (record { run = run; place = place })).
      let p : PlacedRun = record { run = run; place = h.0 } in
      subst (IsOneOf run) (sym those.runs) (one_mapped run_in p those.rows ((those.each p).1 h.1)),
)
  where
    those : AreBrokenRows files truth (moments files base period entries) period.to (broken_runs files truth base period entries)
    those = are_rows files truth base period entries
