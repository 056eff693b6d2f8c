-- Runs in order, as the definitions see them.
use Rattle.std.proofs.Common.{◌≡◌, ℕ, zero, suc, ◌+◌, ◌&&◌, not, Bool, true, false, List, [], ◌∷◌, ◌++◌, length, Some, None, refl, ap, sym, ◌∙◌, append-nil, arith}
use Rattle.std.proofs.lemmas.List.Elements.{filter-append}
use Rattle.std.proofs.lemmas.List.{map-append}
use Rattle.std.specs.Prelude.{filter, map, if◌then◌else◌, slice_index_or, IsSortedByKey}
use Rattle.std.specs.Ordering.{is_lt}
use Rattle.std.specs.List.Sorted.{ties, IsStableByKey}
use Rattle.std.proofs.lemmas.Bool.Decides.{nat_tests}
use Rattle.nr_spec_runs.specs.Runs as spec
use Rattle.nr_runs.specs.declared.runs.Key.{Key}
use Rattle.nr_runs.specs.declared.runs.Run.{Run}
use Rattle.nr_runs.specs.Views.{begun, code_cmp, key_view, run_key, run_of, runs_in, still}

ties_are : (x r : Key) → (not (is_lt (code_cmp x r)) && not (is_lt (code_cmp r x))) ≡ spec.same_key (key_view x) (key_view r)
ties_are x r = grind (arith, nat_tests)

spans_by_ties : (x : Run) (xs : List Run) → spec.spans_of (key_view (run_key x)) (runs_in xs) ≡ map (λ (r : Run). (run_of r).span) (filter (ties (λ x y. is_lt (code_cmp (run_key x) (run_key y))) x) xs)
spans_by_ties x [] = refl
spans_by_ties x (r ∷ xs) = rw (ties_are (run_key x) (run_key r)) (by_same (spec.same_key (key_view (run_key x)) (key_view (run_key r))) (spans_by_ties x xs)) where
  by_same : (b : Bool) → spec.spans_of (key_view (run_key x)) (runs_in xs) ≡ map (λ (r : Run). (run_of r).span) (filter (ties (λ x y. is_lt (code_cmp (run_key x) (run_key y))) x) xs)
      → map (λ (r : spec.Run). r.span) (if b then run_of r ∷ filter (spec.is_run_of (key_view (run_key x))) (runs_in xs) else filter (spec.is_run_of (key_view (run_key x))) (runs_in xs))
      ≡ map (λ (r : Run). (run_of r).span) (if b then r ∷ filter (ties (λ x y. is_lt (code_cmp (run_key x) (run_key y))) x) xs else filter (ties (λ x y. is_lt (code_cmp (run_key x) (run_key y))) x) xs)
  by_same true ih = ap (λ l. (run_of r).span ∷ l) ih
  by_same false ih = ih

pub same_spans : (xs ys : List Run) → IsStableByKey run_key code_cmp xs ys → (q : spec.Key) → spec.spans_of q (runs_in ys) ≡ spec.spans_of q (runs_in xs)
same_spans xs ys h q =
    let x : Run = record { file = q.file; promise = q.promise; prefix = q.prefix; begin = 0; end = 0 } in
    spans_by_ties x ys ∙ ap (map (λ (r : Run). (run_of r).span)) (h x) ∙ sym (spans_by_ties x xs)

length_in : (xs : List Run) → length (runs_in xs) ≡ length xs
length_in [] = refl
length_in (x ∷ xs) = ap (λ n. suc n) (length_in xs)

at_map : {A B : Type 0} (f : A → B) (xs : List A) (k : ℕ) (d : A) → slice_index_or (map f xs) k (f d) ≡ f (slice_index_or xs k d)
at_map f [] k d = refl
at_map f (x ∷ xs) zero d = refl
at_map f (x ∷ xs) (suc k) d = at_map f xs k d

pub sorted_in : (xs : List Run) → IsSortedByKey run_key code_cmp xs → IsSortedByKey (λ (r : spec.Run). r.key) spec.key_cmp (runs_in xs)
sorted_in xs h = λ (k : ℕ) (d : spec.Run) low lt.
    let e : Run = record { file = d.key.file; promise = d.key.promise; prefix = d.key.prefix; begin = d.span.begin; end = d.span.end } in
    rw (at_map run_of xs (k + 1) e, at_map run_of xs k e) (h k e low (rw (length_in xs) at lt))

-- ---- a run that was open ends

pub spans_more : (key : spec.Key) (runs : List spec.Run) (r : spec.Run) → spec.spans_of key (runs ++ r ∷ []) ≡ spec.spans_of key runs ++ spec.spans_of key (r ∷ [])
spans_more key runs r =
    ap (map (λ (r : spec.Run). r.span)) (filter-append (spec.is_run_of key) runs (r ∷ [])) ∙ map-append (λ (r : spec.Run). r.span) (filter (spec.is_run_of key) runs) (filter (spec.is_run_of key) (r ∷ []))

runs_more : (xs : List Run) (x : Run) → runs_in (xs ++ x ∷ []) ≡ runs_in xs ++ run_of x ∷ []
runs_more xs x = map-append run_of xs (x ∷ [])

pub one_ended : (q : spec.Key) (close begin : ℕ) (key : Key) (xs : List Run) (old new : List (Key × ℕ)) → old ≡ (key, begin) ∷ new
    → begun new q ≡ (if spec.same_key q (key_view key) then None else begun old q)
    → spec.spans_of q (runs_in (xs ++ record { file = key.file; promise = key.promise; prefix = key.prefix; begin = begin; end = close } ∷ [])) ++ still close (begun new q)
    ≡ spec.spans_of q (runs_in xs) ++ still close (begun old q)
one_ended q close begin key xs old new is left =
    let r : Run = record { file = key.file; promise = key.promise; prefix = key.prefix; begin = begin; end = close } in
    ap (λ l. spec.spans_of q l ++ still close (begun new q)) (runs_more xs r)
    ∙ ap (λ l. l ++ still close (begun new q)) (spans_more q (runs_in xs) (run_of r))
    ∙ by (spec.same_key q (key_view key)) refl
  where
    by : (same : Bool) → spec.same_key q (key_view key) ≡ same
        → spec.spans_of q (runs_in xs) ++ map (λ (r : spec.Run). r.span) (if spec.same_key q (key_view key) then record { key = key_view key; span = record { begin = begin; end = close } } ∷ [] else []) ++ still close (begun new q)
        ≡ spec.spans_of q (runs_in xs) ++ still close (begun old q)
    by true s =
        let none : begun new q ≡ None = left ∙ ap (λ b. if b then None else begun old q) s in
        let some : begun old q ≡ Some begin = ap (λ (l : List (Key × ℕ)). begun l q) is ∙ ap (λ b. if b then Some begin else begun new q) s in
        rw (s, none, some) (append-nil (spec.spans_of q (runs_in xs) ++ record { begin = begin; end = close } ∷ []))
    by false s =
        let same : begun new q ≡ begun old q = left ∙ ap (λ b. if b then None else begun old q) s in
        rw (s, same, append-nil (spec.spans_of q (runs_in xs))) refl
