-- Runs over moments that stand one list behind another.
use Rattle.std.proofs.Common.{◌≡◌, ℕ, ◌+◌, Bool, true, false, cond, not, ◌&&◌, List, [], ◌∷◌, ◌++◌, filter, map, refl, sym, ap, ◌∙◌, append_assoc}
use Rattle.std.specs.Prelude.{drop}
use Rattle.std.specs.List.Sorted.{IsNonDecreasingBy}
use Rattle.std.proofs.lemmas.List.Elements.{filter-append}
use Rattle.nr_spec_log.specs.Chain.{LogEntry}
use Rattle.nr_spec_history.specs.Conflicts.{Period}
use Rattle.nr_spec_report.specs.Wrong.{Base}
use Rattle.nr_spec_runs.specs.Runs.{Key, Moment, Span, ends_bad, last_after, row_end, run_from, runs_after, runs_of}
use Rattle.nr_spec_truth.specs.Truths.{Truth}
use Rattle.nr_spec_promises.specs.Files.{PromiseFile, first_promised}
use Rattle.nr_spec_promises.specs.Moments.{Mark, View, entries_before, marks_after, moments, view_after}
use Rattle.nr_spec_promises.specs.Broken.{is_bad, is_broken, moment_at}
use Rattle.nr_spec_promises.specs.Found.{broken_at, run_at}
use Rattle.nr_laws_joining.specs.Parts.{Cuts, first_part, last_view, second_part}
use Rattle.nr_laws_joining.proofs.Told.{marks_parts}
use Rattle.nr_laws_joining.proofs.Sights.{same_sight}

-- a row that ends among the first moments ends there, whatever follows
ends_there : (close other : ℕ) (xs ys : List Moment) → last_after true xs ≡ false → row_end close (xs ++ ys) ≡ row_end other xs
ends_there close other [] ys h = absurd cc
ends_there close other (m ∷ xs) ys h = by m.bad h (ends_there close other xs ys)
  where
    by : (b : Bool) → last_after b xs ≡ false → (last_after true xs ≡ false → row_end close (xs ++ ys) ≡ row_end other xs)
        → cond b (row_end close (xs ++ ys)) m.begin ≡ cond b (row_end other xs) m.begin
    by true h ih = ih h
    by false h ih = refl

-- the span from a moment to a time
abbrev pub span_to : Moment → ℕ → List Span
span_to m n = record { begin = m.begin; end = n } ∷ []

run_same : (before : Bool) (close other : ℕ) (m : Moment) (xs ys : List Moment) → last_after m.bad xs ≡ false → run_from before close m (xs ++ ys) ≡ run_from before other m xs
run_same before close other m xs ys h = by m.bad h (ends_there close other xs ys)
  where
    by : (b : Bool) → last_after b xs ≡ false → (last_after true xs ≡ false → row_end close (xs ++ ys) ≡ row_end other xs)
        → cond (b && not before) (span_to m (row_end close (xs ++ ys))) [] ≡ cond (b && not before) (span_to m (row_end other xs)) []
    by true h ih = ap (λ (n : ℕ). cond (not before) (span_to m n) []) (ih h)
    by false h ih = refl

runs_join : (before : Bool) (close other : ℕ) (xs ys : List Moment) → last_after before xs ≡ false → runs_after before close (xs ++ ys) ≡ runs_after before other xs ++ runs_after false close ys
runs_join before close other [] ys h = ap (λ b. runs_after b close ys) h
runs_join before close other (m ∷ xs) ys h =
    let here = run_same before close other m xs ys h in
    let rest = runs_join m.bad close other xs ys h in
    (λ i. here i ++ rest i) ∙ sym (append_assoc (run_from before other m xs) (runs_after m.bad other xs) (runs_after false close ys))

-- a first moment that isn't bad begins no run
first_not_bad : (close : ℕ) (m : Moment) (ys : List Moment) → m.bad ≡ false → runs_of close (m ∷ ys) ≡ runs_after false close ys
first_not_bad close m ys h = λ i. cond (h i && true) (span_to m (row_end close ys)) [] ++ runs_after (h i) close ys

pub last_bad : (files : List PromiseFile) (truth : Truth) (key : Key) (view : View) (marks : List Mark) (before : Bool) → is_bad files truth view key ≡ before
    → last_after before (map (moment_at files truth key) marks) ≡ is_bad files truth (last_view view marks) key
last_bad files truth key view [] before is = sym is
last_bad files truth key view (m ∷ marks) before is = last_bad files truth key m.view marks (is_bad files truth m.view key) refl

pub map-append : {A B : Type 0} (f : A → B) (xs ys : List A) → map f (xs ++ ys) ≡ map f xs ++ map f ys
map-append f [] ys = refl
map-append f (x ∷ xs) ys = ap (λ l. f x ∷ l) (map-append f xs ys)

pub moments_parts : (files : List PromiseFile) (base : Base) (period : Period) (last : ℕ) (es : List LogEntry) → Cuts period last → IsNonDecreasingBy (λ (e : LogEntry). e.time) es
    → moments files base period es ≡ moments files base (first_part period last) es ++ drop 1 (moments files base (second_part period last) es)
moments_parts files base period last es cuts order =
    let begin : Mark = record { begin = period.from; view = view_after files base (first_promised es) (entries_before period es) } in
    ap (λ (l : List Mark). begin ∷ l) (marks_parts files base (first_promised es) period last es cuts order)

pub broken_parts : (files : List PromiseFile) (truth : Truth) (base : Base) (period : Period) (last : ℕ) (es : List LogEntry) (key : Key) → Cuts period last → IsNonDecreasingBy (λ (e : LogEntry). e.time) es
    → ends_bad (map (moment_at files truth key) (moments files base (first_part period last) es)) ≡ false
    → broken_at files truth (moments files base period es) period.to key
    ≡ broken_at files truth (moments files base (first_part period last) es) last key ++ broken_at files truth (moments files base (second_part period last) es) period.to key
broken_parts files truth base period last es key cuts order good =
    let at = moment_at files truth key in
    let one = moments files base (first_part period last) es in
    let view = view_after files base (first_promised es) (entries_before (second_part period last) es) in
    let begin : Mark = record { begin = last + 1; view = view } in
    let others = marks_after files base (first_promised es) (second_part period last) [] es in
    let start = view_after files base (first_promised es) (entries_before period es) in
    let last_is = last_bad files truth key start (marks_after files base (first_promised es) (first_part period last) [] es) (is_bad files truth start key) refl in
    let not_bad : is_bad files truth view key ≡ false =
    ap (λ (v : View). is_bad files truth v key) (sym (same_sight files base period last start es cuts order)) ∙ sym last_is ∙ good in
    let second : runs_of period.to (map at (begin ∷ others)) ≡ runs_after false period.to (map at others) = first_not_bad period.to (at begin) (map at others) not_bad in
    let all : runs_of period.to (map at (moments files base period es)) ≡ runs_of last (map at one) ++ runs_of period.to (map at (begin ∷ others)) =
    ap (λ (l : List Mark). runs_of period.to (map at l)) (moments_parts files base period last es cuts order)
    ∙ ap (runs_of period.to) (map-append at one others)
    ∙ runs_join false period.to last (map at one) (map at others) good
    ∙ ap (λ (l : List Span). runs_of last (map at one) ++ l) (sym second) in
    ap (λ (l : List Span). map (run_at key) (filter (is_broken files key) l)) all
    ∙ ap (map (run_at key)) (filter-append (is_broken files key) (runs_of last (map at one)) (runs_of period.to (map at (begin ∷ others))))
    ∙ map-append (run_at key) (filter (is_broken files key) (runs_of last (map at one))) (filter (is_broken files key) (runs_of period.to (map at (begin ∷ others))))
