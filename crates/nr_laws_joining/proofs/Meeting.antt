-- A run that stands when the first part ends goes on in the second.
use Rattle.std.proofs.Common.{◌≡◌, ℕ, ◌+◌, Bool, true, false, cond, not, ◌&&◌, List, [], ◌∷◌, ◌++◌, map, refl, sym, ap, ◌∙◌}
use Rattle.std.specs.List.Sorted.{IsNonDecreasingBy}
use Rattle.nr_spec_log.specs.Chain.{LogEntry}
use Rattle.nr_spec_history.specs.Conflicts.{Period}
use Rattle.nr_spec_report.specs.Wrong.{Base}
use Rattle.nr_spec_runs.specs.Runs.{Key, Moment, Span, ends_bad, last_after, row_end, runs_after, runs_of}
use Rattle.nr_spec_truth.specs.Truths.{Truth}
use Rattle.nr_spec_promises.specs.Files.{PromiseFile, first_promised}
use Rattle.nr_spec_promises.specs.Moments.{Mark, View, entries_before, marks_after, moments, view_after}
use Rattle.nr_spec_promises.specs.Broken.{is_bad, moment_at}
use Rattle.nr_laws_joining.specs.Parts.{Cuts, as_one, first_part, second_part}
use Rattle.nr_laws_joining.proofs.Sights.{same_sight}
use Rattle.nr_laws_joining.proofs.Rows.{last_bad, map-append, moments_parts, span_to}

-- moments behind one that isn't bad, of which none begins a run, don't end bad
none_begins : (other : ℕ) (xs : List Moment) → runs_after false other xs ≡ [] → last_after false xs ≡ true → ⊥
none_begins other [] none h = absurd cc
none_begins other (m ∷ xs) none h = by m.bad none h (none_begins other xs)
  where
    by : (b : Bool) → cond (b && true) (span_to m (row_end other xs)) [] ++ runs_after b other xs ≡ [] → last_after b xs ≡ true
        → (runs_after false other xs ≡ [] → last_after false xs ≡ true → ⊥) → ⊥
    by true none h ih = absurd cc
    by false none h ih = ih none h

-- Where no run begins, a row goes on to what follows; where one does, it ends before.
goes_on : (close other : ℕ) (xs ys : List Moment) → runs_after true other xs ≡ [] → last_after true xs ≡ true → row_end close (xs ++ ys) ≡ row_end close ys
goes_on close other [] ys none h = refl
goes_on close other (m ∷ xs) ys none h = by m.bad none h (goes_on close other xs ys) (none_begins other xs)
  where
    by : (b : Bool) → cond (b && false) (span_to m (row_end other xs)) [] ++ runs_after b other xs ≡ [] → last_after b xs ≡ true
        → (runs_after true other xs ≡ [] → last_after true xs ≡ true → row_end close (xs ++ ys) ≡ row_end close ys)
        → (runs_after false other xs ≡ [] → last_after false xs ≡ true → ⊥) → cond b (row_end close (xs ++ ys)) m.begin ≡ row_end close ys
    by true none h ih never = ih none h
    by false none h ih never = absurd (never none h)

ends_before : (close other : ℕ) (xs ys : List Moment) (r : Span) (rs : List Span) → runs_after true other xs ≡ r ∷ rs → row_end close (xs ++ ys) ≡ row_end other xs
ends_before close other [] ys r rs h = absurd cc
ends_before close other (m ∷ xs) ys r rs h = by m.bad h (ends_before close other xs ys r rs)
  where
    by : (b : Bool) → cond (b && false) (span_to m (row_end other xs)) [] ++ runs_after b other xs ≡ r ∷ rs
        → (runs_after true other xs ≡ r ∷ rs → row_end close (xs ++ ys) ≡ row_end other xs)
        → cond b (row_end close (xs ++ ys)) m.begin ≡ cond b (row_end other xs) m.begin
    by true h ih = ih h
    by false h ih = refl

-- the runs of what follows, where its first moment is bad
abbrev behind : ℕ → Moment → List Moment → List Span
behind close m ys = span_to m (row_end close ys) ++ runs_after true close ys

runs_meet : (before : Bool) (close other : ℕ) (xs ys : List Moment) (first : Moment) → last_after before xs ≡ true
    → runs_after before close (xs ++ ys) ≡ as_one (runs_after before other xs) (behind close first ys)
runs_meet before close other [] ys first h = ap (λ b. runs_after b close ys) h
runs_meet before close other (m ∷ xs) ys first h = by before m.bad h (runs_meet m.bad close other xs ys first h)
  where
    begun : last_after true xs ≡ true → (rest : List Span) → runs_after true other xs ≡ rest
        → span_to m (row_end close (xs ++ ys)) ++ as_one rest (behind close first ys) ≡ as_one (span_to m (row_end other xs) ++ rest) (behind close first ys)
    begun h [] is = ap (λ (n : ℕ). span_to m n ++ runs_after true close ys) (goes_on close other xs ys is h)
    begun h (r ∷ rs) is = ap (λ (n : ℕ). span_to m n ++ as_one (r ∷ rs) (behind close first ys)) (ends_before close other xs ys r rs is)

    by : (b bad : Bool) → last_after bad xs ≡ true → runs_after bad close (xs ++ ys) ≡ as_one (runs_after bad other xs) (behind close first ys)
        → cond (bad && not b) (span_to m (row_end close (xs ++ ys))) [] ++ runs_after bad close (xs ++ ys)
        ≡ as_one (cond (bad && not b) (span_to m (row_end other xs)) [] ++ runs_after bad other xs) (behind close first ys)
    by b false h rest = rest
    by true true h rest = rest
    by false true h rest =
        ap (λ (l : List Span). span_to m (row_end close (xs ++ ys)) ++ l) rest ∙ begun h (runs_after true other xs) refl

first_bad : (close : ℕ) (m : Moment) (ys : List Moment) → m.bad ≡ true → runs_of close (m ∷ ys) ≡ behind close m ys
first_bad close m ys h = λ i. cond (h i && true) (span_to m (row_end close ys)) [] ++ runs_after (h i) close ys

pub runs_parts : (files : List PromiseFile) (truth : Truth) (base : Base) (period : Period) (last : ℕ) (es : List LogEntry) (key : Key) → Cuts period last → IsNonDecreasingBy (λ (e : LogEntry). e.time) es
    → ends_bad (map (moment_at files truth key) (moments files base (first_part period last) es)) ≡ true
    → runs_of period.to (map (moment_at files truth key) (moments files base period es))
    ≡ as_one (runs_of last (map (moment_at files truth key) (moments files base (first_part period last) es))) (runs_of period.to (map (moment_at files truth key) (moments files base (second_part period last) es)))
runs_parts files truth base period last es key cuts order stands =
    let at = moment_at files truth key in
    let one = moments files base (first_part period last) es in
    let view = view_after files base (first_promised es) (entries_before (second_part period last) es) in
    let begin : Mark = record { begin = last + 1; view = view } in
    let others = marks_after files base (first_promised es) (second_part period last) [] es in
    let start = view_after files base (first_promised es) (entries_before period es) in
    let last_is = last_bad files truth key start (marks_after files base (first_promised es) (first_part period last) [] es) (is_bad files truth start key) refl in
    let bad : is_bad files truth view key ≡ true =
    ap (λ (v : View). is_bad files truth v key) (sym (same_sight files base period last start es cuts order)) ∙ sym last_is ∙ stands in
    ap (λ (l : List Mark). runs_of period.to (map at l)) (moments_parts files base period last es cuts order)
    ∙ ap (runs_of period.to) (map-append at one others)
    ∙ runs_meet false period.to last (map at one) (map at others) (at begin) stands
    ∙ ap (as_one (runs_of last (map at one))) (sym (first_bad period.to (at begin) (map at others) bad))
