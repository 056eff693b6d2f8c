-- Runs are the longest rows.
use Rattle.std.proofs.Common.{◌≡◌, inl, inr, ◌↔◌, ℕ, Bool, true, false, ◌&&◌, not, List, [], ◌∷◌, ◌++◌, refl, ap, sym, ◌∙◌}
use Rattle.std.specs.Prelude.{if◌then◌else◌}
use Rattle.nr_spec_runs.specs.Runs.{Moment, Span, row_end, run_from, runs_after, runs_of, last_after}
use Rattle.nr_spec_runs.specs.Longest.{IsAmong, begin_of, starts_bad, AreBad, IsRowAfter, IsLongestRow}

-- the bad moments in front
record Front (close : ℕ) (ms : List Moment) : Type 0 where
  row : List Moment
  after : List Moment
  split : ms ≡ row ++ after
  bad : AreBad row
  right : starts_bad after ≡ false
  ends : row_end close ms ≡ begin_of close after

front : (close : ℕ) (ms : List Moment) → Front close ms
front close [] = record { row = []; after = []; split = refl; bad = tt; right = refl; ends = refl }
front close (x ∷ ms) = by_bad x.bad refl (front close ms) where
  by_bad : (b : Bool) → x.bad ≡ b → Front close ms → Front close (x ∷ ms)
  by_bad true e f = record { row = x ∷ f.row; after = f.after; split = ap (λ l. x ∷ l) f.split; bad = (e, f.bad); right = f.right; ends = rw e f.ends }
  by_bad false e f = record { row = []; after = x ∷ ms; split = refl; bad = tt; right = e; ends = rw e refl }

of_both : (a b : Bool) → (a && not b) ≡ true → (a ≡ true) × (b ≡ false)
of_both true false e = (refl, refl)
of_both true true e = absurd cc
of_both false b e = absurd cc

later : (b : Bool) (close : ℕ) (x : Moment) (ms : List Moment) (s : Span) → IsRowAfter x.bad close ms s → IsRowAfter b close (x ∷ ms) s
later b close x ms s r = record { before = x ∷ r.before; first = r.first; row = r.row; after = r.after; split = ap (λ l. x ∷ l) r.split; bad = r.bad; left = r.left; right = r.right; begins = r.begins; ends = r.ends }

is_row : (b : Bool) (close : ℕ) (ms : List Moment) (s : Span) → IsAmong s (runs_after b close ms) → IsRowAfter b close ms s
is_row b close [] s h = absurd h
is_row b close (x ∷ ms) s h = by_test (x.bad && not b) refl h (is_row x.bad close ms s) where
  by_test : (t : Bool) → (x.bad && not b) ≡ t → IsAmong s ((if t then record { begin = x.begin; end = row_end close ms } ∷ [] else []) ++ runs_after x.bad close ms)
      → (IsAmong s (runs_after x.bad close ms) → IsRowAfter x.bad close ms s) → IsRowAfter b close (x ∷ ms) s
  by_test true e (inl i) ih =
      let f = front close ms in
      let both = of_both x.bad b e in
      record { before = []; first = x; row = f.row; after = f.after; split = ap (λ l. x ∷ l) f.split; bad = (both.0, f.bad); left = both.1; right = f.right; begins = ap (λ (s : Span). s.begin) i; ends = ap (λ (s : Span). s.end) i ∙ f.ends }
  by_test true e (inr i) ih = later b close x ms s (ih i)
  by_test false e i ih = later b close x ms s (ih i)

row_ends : (close : ℕ) (row after : List Moment) → AreBad row → starts_bad after ≡ false → row_end close (row ++ after) ≡ begin_of close after
row_ends close [] [] bad right = refl
row_ends close [] (m ∷ after) bad right = rw right refl
row_ends close (x ∷ row) after bad right = rw bad.0 (row_ends close row after bad.1 right)

among_after : (s : Span) (xs ys : List Span) → IsAmong s ys → IsAmong s (xs ++ ys)
among_after s [] ys h = h
among_after s (x ∷ xs) ys h = inr (among_after s xs ys h)

is_run : (b : Bool) (close : ℕ) (before : List Moment) (first : Moment) (row after : List Moment) (s : Span) → AreBad (first ∷ row) → last_after b before ≡ false → starts_bad after ≡ false
    → s.begin ≡ first.begin → s.end ≡ begin_of close after → IsAmong s (runs_after b close (before ++ first ∷ (row ++ after)))
is_run b close [] first row after s bad left right begins ends =
    rw (bad.0, left) (inl (ap (λ (n : ℕ). record { begin = n; end = s.end }) begins ∙ ap (λ (n : ℕ). record { begin = first.begin; end = n }) (ends ∙ sym (row_ends close row after bad.1 right))))
is_run b close (x ∷ before) first row after s bad left right begins ends =
    among_after s (run_from b close x (before ++ first ∷ (row ++ after))) (runs_after x.bad close (before ++ first ∷ (row ++ after))) (is_run x.bad close before first row after s bad left right begins ends)

pub exactly : (close : ℕ) (moments : List Moment) (s : Span) → IsAmong s (runs_of close moments) ↔ IsLongestRow close moments s
exactly close moments s = (
  is_row false close moments s,
  λ (r : IsLongestRow close moments s). rw r.split (is_run false close r.before r.first r.row r.after s r.bad r.left r.right r.begins r.ends),
)
