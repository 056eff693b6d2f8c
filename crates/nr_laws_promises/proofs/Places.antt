-- Rows of bad moments, each with how many moments stand before it.
use Rattle.std.proofs.Common.{◌≡◌, inl, inr, ◌≤◌, ◌+◌, ℕ, suc, Bool, true, false, ◌&&◌, not, List, [], ◌∷◌, ◌++◌, length, refl, ap, sym, ◌∙◌, arith}
use Rattle.std.specs.Prelude.{map, if◌then◌else◌}
use Rattle.std.specs.List.{AllByRecursion}
use Rattle.std.specs.List.Sorted.{IsStrictlySortedBy}
use Rattle.std.specs.Ordering.{nat_cmp}
use Rattle.std.specs.declared.cmp.Ordering.{Ordering}
use Rattle.std.specs.declared.cmp.Ordering.TheVariants.{Less}
use Rattle.std.proofs.lemmas.Bool.Decides.{nat_tests}
use Rattle.nr_spec_runs.specs.Runs.{Moment, Span, row_end, runs_after}
use Rattle.nr_spec_promises.specs.Moments.{Mark}
use Rattle.nr_laws_promises.specs.BrokenRows.{IsOneOf, begin_of}
use Rattle.nr_laws_promises.proofs.Members.{all_from, one_right}

-- a moment is bad where it passes a test
abbrev pub moment_by : (Mark → Bool) → Mark → Moment
moment_by test m = record { begin = m.begin; bad = test m }

abbrev pub row_from : (Mark → Bool) → Bool → ℕ → ℕ → Mark → List Mark → List (ℕ × Span)
row_from test before n to m ms =
    if test m && not before then (n, record { begin = m.begin; end = row_end to (map (moment_by test) ms) }) ∷ [] else []

-- of moments, before which this many stand, the last of which is bad or isn't
abbrev pub rows_from : (Mark → Bool) → Bool → ℕ → ℕ → List Mark → List (ℕ × Span)
rows_from test before n to [] = []
rows_from test before n to (m ∷ ms) = row_from test before n to m ms ++ rows_from test (test m) (suc n) to ms

abbrev pub span_of : ℕ × Span → Span
span_of q = q.1

pub spans_are : (test : Mark → Bool) (before : Bool) (n to : ℕ) (ms : List Mark) → map span_of (rows_from test before n to ms) ≡ runs_after before to (map (moment_by test) ms)
spans_are test before n to [] = refl
spans_are test before n to (m ∷ ms) = by (test m && not before) (spans_are test (test m) (suc n) to ms)
  where
    s : Span
    s = record { begin = m.begin; end = row_end to (map (moment_by test) ms) }

    by : (b : Bool) → map span_of (rows_from test (test m) (suc n) to ms) ≡ runs_after (test m) to (map (moment_by test) ms)
        → map span_of ((if b then (n, s) ∷ [] else []) ++ rows_from test (test m) (suc n) to ms) ≡ (if b then s ∷ [] else []) ++ runs_after (test m) to (map (moment_by test) ms)
    by true ih = ap (λ l. s ∷ l) ih
    by false ih = ih

-- ---- what a row is

abbrev pub last_bad : (Mark → Bool) → Bool → List Mark → Bool
last_bad test before [] = before
last_bad test before (m ∷ ms) = last_bad test (test m) ms

abbrev pub first_bad : (Mark → Bool) → List Mark → Bool
first_bad test [] = false
first_bad test (m ∷ ms) = test m

abbrev pub Passes : (Mark → Bool) → Mark → Type 0
Passes test m = test m ≡ true

pub record Row (test : Mark → Bool) (before : Bool) (n to : ℕ) (ms : List Mark) (q : ℕ × Span) : Type 0 where
  pub front : List Mark
  pub first : Mark
  pub row : List Mark
  pub back : List Mark
  pub split : ms ≡ front ++ first ∷ (row ++ back)
  pub placed : q.0 ≡ n + length front
  pub bad : AllByRecursion (Passes test) (first ∷ row)
  pub left : last_bad test before front ≡ false
  pub right : first_bad test back ≡ false
  pub begins : q.1.begin ≡ first.begin
  pub ends : q.1.end ≡ begin_of to back

-- the bad moments in front
record Ahead (test : Mark → Bool) (to : ℕ) (ms : List Mark) : Type 0 where
  row : List Mark
  back : List Mark
  split : ms ≡ row ++ back
  bad : AllByRecursion (Passes test) row
  right : first_bad test back ≡ false
  ends : row_end to (map (moment_by test) ms) ≡ begin_of to back

ahead : (test : Mark → Bool) (to : ℕ) (ms : List Mark) → Ahead test to ms
ahead test to [] = record { row = []; back = []; split = refl; bad = tt; right = refl; ends = refl }
ahead test to (m ∷ ms) = by (test m) refl (ahead test to ms)
  where
    by : (b : Bool) → test m ≡ b → Ahead test to ms → Ahead test to (m ∷ ms)
    by true e f = record { row = m ∷ f.row; back = f.back; split = ap (λ l. m ∷ l) f.split; bad = (e, f.bad); right = f.right; ends = rw e f.ends }
    by false e f = record { row = []; back = m ∷ ms; split = refl; bad = tt; right = e; ends = rw e refl }

of_both : (a b : Bool) → (a && not b) ≡ true → (a ≡ true) × (b ≡ false)
of_both true false e = (refl, refl)
of_both true true e = absurd cc
of_both false b e = absurd cc

later : (test : Mark → Bool) (b : Bool) (n to : ℕ) (m : Mark) (ms : List Mark) (q : ℕ × Span) → Row test (test m) (suc n) to ms q → Row test b n to (m ∷ ms) q
later test b n to m ms q r = record {
  front = m ∷ r.front;
  first = r.first;
  row = r.row;
  back = r.back;
  split = ap (λ l. m ∷ l) r.split;
  placed = let e = r.placed in omega (arith, e);
  bad = r.bad;
  left = r.left;
  right = r.right;
  begins = r.begins;
  ends = r.ends;
}

pub is_row : (test : Mark → Bool) (b : Bool) (n to : ℕ) (ms : List Mark) (q : ℕ × Span) → IsOneOf q (rows_from test b n to ms) → Row test b n to ms q
is_row test b n to [] q h = absurd h
is_row test b n to (m ∷ ms) q h = by (test m && not b) refl h (is_row test (test m) (suc n) to ms q)
  where
    by : (t : Bool) → (test m && not b) ≡ t
        → IsOneOf q ((if t then (n, record { begin = m.begin; end = row_end to (map (moment_by test) ms) }) ∷ [] else []) ++ rows_from test (test m) (suc n) to ms)
        → (IsOneOf q (rows_from test (test m) (suc n) to ms) → Row test (test m) (suc n) to ms q) → Row test b n to (m ∷ ms) q
    by true e (inl i) ih =
        let f = ahead test to ms in
        let both = of_both (test m) b e in
        let place : q.0 ≡ n = ap (λ (p : ℕ × Span). p.0) i in
        record {
          front = [];
          first = m;
          row = f.row;
          back = f.back;
          split = ap (λ l. m ∷ l) f.split;
          placed = omega (arith, place);
          bad = (both.0, f.bad);
          left = both.1;
          right = f.right;
          begins = ap (λ (p : ℕ × Span). p.1.begin) i;
          ends = ap (λ (p : ℕ × Span). p.1.end) i ∙ f.ends;
        }
    by true e (inr i) ih = later test b n to m ms q (ih i)
    by false e i ih = later test b n to m ms q (ih i)

row_ends : (test : Mark → Bool) (to : ℕ) (row back : List Mark) → AllByRecursion (Passes test) row → first_bad test back ≡ false
    → row_end to (map (moment_by test) (row ++ back)) ≡ begin_of to back
row_ends test to [] [] bad right = refl
row_ends test to [] (m ∷ back) bad right = rw right refl
row_ends test to (m ∷ row) back bad right = rw bad.0 (row_ends test to row back bad.1 right)

is_one : (test : Mark → Bool) (b : Bool) (n to : ℕ) (front : List Mark) (first : Mark) (row back : List Mark) (q : ℕ × Span) → q.0 ≡ n + length front
    → AllByRecursion (Passes test) (first ∷ row) → last_bad test b front ≡ false → first_bad test back ≡ false → q.1.begin ≡ first.begin → q.1.end ≡ begin_of to back
    → IsOneOf q (rows_from test b n to (front ++ first ∷ (row ++ back)))
is_one test b n to [] first row back q placed bad left right begins ends =
    let place : q.0 ≡ n = omega (arith, placed) in
    let end : q.1.end ≡ row_end to (map (moment_by test) (row ++ back)) = ends ∙ sym (row_ends test to row back bad.1 right) in
    rw (bad.0, left) (inl (λ i. (place i, record { begin = begins i; end = end i })))
is_one test b n to (m ∷ front) first row back q placed bad left right begins ends =
    one_right q (row_from test b n to m (front ++ first ∷ (row ++ back))) (rows_from test (test m) (suc n) to (front ++ first ∷ (row ++ back)))
    (is_one test (test m) (suc n) to front first row back q (omega (arith, placed)) bad left right begins ends)

pub row_is : (test : Mark → Bool) (b : Bool) (n to : ℕ) (ms : List Mark) (q : ℕ × Span) → Row test b n to ms q → IsOneOf q (rows_from test b n to ms)
row_is test b n to ms q r = rw r.split (is_one test b n to r.front r.first r.row r.back q r.placed r.bad r.left r.right r.begins r.ends)

-- ---- in order

abbrev IsSince : ℕ → ℕ × Span → Type 0
IsSince n q = n ≤ q.0

places_since : (test : Mark → Bool) (b : Bool) (n to : ℕ) (ms : List Mark) → AllByRecursion (IsSince n) (rows_from test b n to ms)
places_since test b n to [] = tt
places_since test b n to (m ∷ ms) =
    by (test m && not b) (all_from (IsSince (suc n)) (IsSince n) (rows_from test (test m) (suc n) to ms) (λ q h. less n q.0 h) (places_since test (test m) (suc n) to ms))
  where
    less : (k j : ℕ) → suc k ≤ j → k ≤ j
    less k j h = omega (arith, h)

    by : (t : Bool) → AllByRecursion (IsSince n) (rows_from test (test m) (suc n) to ms)
        → AllByRecursion (IsSince n) ((if t then (n, record { begin = m.begin; end = row_end to (map (moment_by test) ms) }) ∷ [] else []) ++ rows_from test (test m) (suc n) to ms)
    by true rest = (omega arith, rest)
    by false rest = rest

abbrev pub by_place : ℕ × Span → ℕ × Span → Ordering
by_place q r = nat_cmp q.0 r.0

pub places_ascend : (test : Mark → Bool) (b : Bool) (n to : ℕ) (ms : List Mark) → IsStrictlySortedBy by_place (rows_from test b n to ms)
unfolding IsStrictlySortedBy
places_ascend test b n to [] = tt
places_ascend test b n to (m ∷ ms) = by (test m && not b) (places_since test (test m) (suc n) to ms) (places_ascend test (test m) (suc n) to ms)
  where
    less : (k j : ℕ) → suc k ≤ j → nat_cmp k j ≡ Less
    less k j h = grind (arith, nat_tests)

    s : Span
    s = record { begin = m.begin; end = row_end to (map (moment_by test) ms) }

    by : (t : Bool) → AllByRecursion (IsSince (suc n)) (rows_from test (test m) (suc n) to ms) → IsStrictlySortedBy by_place (rows_from test (test m) (suc n) to ms)
        → IsStrictlySortedBy by_place ((if t then (n, s) ∷ [] else []) ++ rows_from test (test m) (suc n) to ms)
    by true since rest = (all_from (IsSince (suc n)) (λ q. by_place (n, s) q ≡ Less) (rows_from test (test m) (suc n) to ms) (λ q h. less n q.0 h) since, rest)
    by false since rest = rest
