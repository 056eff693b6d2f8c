-- Runs begin and end at times of eight bytes.
use Rattle.std.proofs.Common.{ℕ, ◌^◌, ◌<◌, ◌&&◌, not, Bool, true, false, cond, Option, List, [], ◌∷◌, ◌++◌}
use Rattle.std.specs.List.{AllByRecursion}
use Rattle.nr_spec_log.specs.Chain.{LogEntry}
use Rattle.nr_spec_history.specs.Conflicts.{Period}
use Rattle.nr_spec_bounds.specs.Bounds.{AreStated}
use Rattle.nr_spec_report.specs.Wrong.{Base, is_within}
use Rattle.nr_spec_runs.specs.Runs.{Moment, Span, row_end, run_from, runs_after}
use Rattle.nr_spec_promises.specs.Files.{PromiseFile, first_promised}
use Rattle.nr_spec_promises.specs.Moments.{Mark, marks_after, moments, view_after}
use Rattle.nr_laws_verify.proofs.Each.{each_appended}

abbrev pub IsTime : ℕ → Type 0
IsTime n = n < 2 ^ 64

-- ---- moments

abbrev pub IsMark : Mark → Type 0
IsMark m = IsTime m.begin

later_marks : (files : List PromiseFile) (base : Base) (first : Option (List ℕ)) (period : Period) (past later : List LogEntry) → AreStated later → AllByRecursion IsMark (marks_after files base first period past later)
later_marks files base first period past [] stated = tt
later_marks files base first period past (e ∷ later) stated =
    each_appended IsMark (cond (is_within period e.time) (mark ∷ []) []) (marks_after files base first period (past ++ e ∷ []) later) (by (is_within period e.time))
    (later_marks files base first period (past ++ e ∷ []) later stated.1)
  where
    mark : Mark
    mark = record { begin = e.time; view = view_after files base first (past ++ e ∷ []) }

    by : (b : Bool) → AllByRecursion IsMark (cond b (record { begin = e.time; view = view_after files base first (past ++ e ∷ []) } ∷ []) [])
    by true = (stated.0.time, tt)
    by false = tt

pub marks : (files : List PromiseFile) (base : Base) (period : Period) (entries : List LogEntry) → IsTime period.from → AreStated entries → AllByRecursion IsMark (moments files base period entries)
marks files base period entries from stated = (from, later_marks files base (first_promised entries) period [] entries stated)

-- ---- runs

abbrev pub IsMoment : Moment → Type 0
IsMoment m = IsTime m.begin

pub record IsSpan (s : Span) : Type 0 where
  pub begin : IsTime s.begin
  pub end : IsTime s.end

row_ends : (close : ℕ) (ms : List Moment) → IsTime close → AllByRecursion IsMoment ms → IsTime (row_end close ms)
row_ends close [] c h = c
row_ends close (m ∷ ms) c h = by m.bad (row_ends close ms c h.1)
  where
    by : (b : Bool) → IsTime (row_end close ms) → IsTime (cond b (row_end close ms) m.begin)
    by true later = later
    by false later = h.0

pub spans : (before : Bool) (close : ℕ) (ms : List Moment) → IsTime close → AllByRecursion IsMoment ms → AllByRecursion IsSpan (runs_after before close ms)
spans before close [] c h = tt
spans before close (m ∷ ms) c h =
    each_appended IsSpan (run_from before close m ms) (runs_after m.bad close ms) (by (m.bad && not before)) (spans m.bad close ms c h.1)
  where
    by : (b : Bool) → AllByRecursion IsSpan (cond b (record { begin = m.begin; end = row_end close ms } ∷ []) [])
    by true = (record { begin = h.0; end = row_ends close ms c h.1 }, tt)
    by false = tt
