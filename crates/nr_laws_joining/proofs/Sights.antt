-- The last moment of the first part shows what the second part begins with.
use Rattle.std.proofs.Common.{◌≡◌, ℕ, ◌+◌, ◌<◌, ◌≤◌, Bool, true, false, cond, List, [], ◌∷◌, ◌++◌, Option, refl, sym, ap, ◌∙◌, append_assoc, append-nil, arith}
use Rattle.std.specs.Prelude.{drop, nat_le, nat_lt}
use Rattle.std.specs.List.Sorted.{IsNonDecreasingBy}
use Rattle.std.proofs.lemmas.Bool.Decides.{nat_tests}
use Rattle.nr_spec_log.specs.Chain.{LogEntry}
use Rattle.nr_spec_history.specs.Conflicts.{Period}
use Rattle.nr_spec_report.specs.Wrong.{Base, is_within}
use Rattle.nr_spec_promises.specs.Files.{PromiseFile, first_promised}
use Rattle.nr_spec_promises.specs.Moments.{Mark, View, entries_before, marks_after, moments, view_after}
use Rattle.nr_laws_joining.specs.Parts.{Cuts, first_part, last_view, second_part}
use Rattle.nr_laws_joining.proofs.Told.{IsSince, above, late_first, since_all, up_to}

is_low : (n m : ℕ) → n < m → nat_lt n m ≡ true
is_low n m h = grind (arith, nat_tests)

not_low : (n m : ℕ) → m ≤ n → nat_lt n m ≡ false
not_low n m h = grind (arith, nat_tests)

is_less : (n m : ℕ) → nat_lt n m ≡ true → n < m
is_less n m h = grind (arith, nat_tests)

not_less : (n m : ℕ) → nat_lt n m ≡ false → m ≤ n
not_less n m h = grind (arith, nat_tests)

too_early : (period : Period) (n : ℕ) → n < period.from → is_within period n ≡ false
too_early period n h = grind (arith, nat_tests)

inside : (period : Period) (n : ℕ) → period.from ≤ n → n ≤ period.to → is_within period n ≡ true
inside period n h k = grind (arith, nat_tests)

none_before : (period : Period) (low : ℕ) (es : List LogEntry) → period.from ≤ low → IsSince low es → entries_before period es ≡ []
none_before period low [] from since = refl
none_before period low (e ∷ es) from since =
    let later : period.from ≤ e.time = let le = since.0 in omega (arith, from, le) in
    ap (λ b. cond b (e ∷ entries_before period es) (entries_before period es)) (not_low e.time period.from later)
    ∙ none_before period e.time es later since.1

none_within : (files : List PromiseFile) (base : Base) (first : Option (List ℕ)) (period : Period) (last low : ℕ) (past es : List LogEntry) → last < low → IsSince low es
    → marks_after files base first (first_part period last) past es ≡ []
none_within files base first period last low past [] late since = refl
none_within files base first period last low past (e ∷ es) late since =
    let time : last < e.time = let le = since.0 in omega (arith, late, le) in
    ap (λ b. cond b (record { begin = e.time; view = view_after files base first (past ++ e ∷ []) } ∷ []) [] ++ marks_after files base first (first_part period last) (past ++ e ∷ []) es) (late_first period last e.time time)
    ∙ none_within files base first period last e.time (past ++ e ∷ []) es time since.1

module _ (files : List PromiseFile) (base : Base) (first : Option (List ℕ)) (period : Period) (last : ℕ) (cuts : Cuts period last) where
  abbrev sight : List LogEntry → View
  sight past = view_after files base first past

  abbrev marks : List LogEntry → List LogEntry → List Mark
  marks past es = marks_after files base first (first_part period last) past es

  abbrev low_of : List LogEntry → List LogEntry
  low_of es = entries_before period es

  abbrev up_of : List LogEntry → List LogEntry
  up_of es = entries_before (second_part period last) es

  shows : (low : ℕ) (past es : List LogEntry) → IsSince low es → last_view (sight (past ++ low_of es)) (marks past es) ≡ sight (past ++ up_of es)
  shows low past [] since = refl
  shows low past (e ∷ es) since = by (nat_lt e.time period.from) refl (nat_le e.time last) refl (shows e.time (past ++ e ∷ []) es since.1)
    where
      next : List LogEntry
      next = past ++ e ∷ []

      mark : Mark
      mark = record { begin = e.time; view = sight next }

      taken : e.time ≤ last → up_of (e ∷ es) ≡ e ∷ up_of es
      taken le = ap (λ b. cond b (e ∷ up_of es) (up_of es)) (is_low e.time (last + 1) (omega (arith, le)))

      by : (early : Bool) → nat_lt e.time period.from ≡ early → (within : Bool) → nat_le e.time last ≡ within
          → last_view (sight (next ++ low_of es)) (marks next es) ≡ sight (next ++ up_of es)
          → last_view (sight (past ++ low_of (e ∷ es))) (marks past (e ∷ es)) ≡ sight (past ++ up_of (e ∷ es))
      by true is within w rest =
          let lt = is_less e.time period.from is in
          let from = cuts.from in
          let le : e.time ≤ last = omega (arith, lt, from) in
          (λ i. last_view (sight (past ++ cond (is i) (e ∷ low_of es) (low_of es))) (cond (too_early (first_part period last) e.time lt i) (mark ∷ []) [] ++ marks next es))
          ∙ ap (λ (l : List LogEntry). last_view (sight l) (marks next es)) (sym (append_assoc past (e ∷ []) (low_of es)))
          ∙ rest ∙ ap sight (append_assoc past (e ∷ []) (up_of es)) ∙ ap (λ (l : List LogEntry). sight (past ++ l)) (sym (taken le))
      by false is true w rest =
          let from = not_less e.time period.from is in
          let le = up_to e.time last w in
          let none = none_before period e.time es from since.1 in
          ap (λ b. last_view (sight (past ++ low_of (e ∷ es))) (cond b (mark ∷ []) [] ++ marks next es)) (inside (first_part period last) e.time from le)
          ∙ ap (λ (l : List LogEntry). last_view (sight l) (marks next es)) (sym (ap (λ (l : List LogEntry). next ++ l) none ∙ append-nil next))
          ∙ rest ∙ ap sight (append_assoc past (e ∷ []) (up_of es)) ∙ ap (λ (l : List LogEntry). sight (past ++ l)) (sym (taken le))
      by false is false w rest =
          let from = not_less e.time period.from is in
          let lt = above e.time last w in
          let since_e : IsSince e.time (e ∷ es) = (omega arith, since.1) in
          let none = none_before period e.time (e ∷ es) from since_e in
          let none_up = none_before (second_part period last) e.time (e ∷ es) (omega (arith, lt)) since_e in
          let no_marks = none_within files base first period last e.time past (e ∷ es) lt since_e in
          (λ i. last_view (sight (past ++ none i)) (no_marks i)) ∙ ap (λ (l : List LogEntry). sight (past ++ l)) (sym none_up)

-- of the moments of both parts
pub same_sight : (files : List PromiseFile) (base : Base) (period : Period) (last : ℕ) (view : View) (es : List LogEntry) → Cuts period last → IsNonDecreasingBy (λ (e : LogEntry). e.time) es
    → last_view view (moments files base (first_part period last) es) ≡ view_after files base (first_promised es) (entries_before (second_part period last) es)
same_sight files base period last view es cuts order = shows files base (first_promised es) period last cuts 0 [] es (since_all es order)

pub boundary : (files : List PromiseFile) (base : Base) (period : Period) (last : ℕ) (view : View) (es : List LogEntry) → Cuts period last → IsNonDecreasingBy (λ (e : LogEntry). e.time) es
    → moments files base (second_part period last) es
    ≡ record { begin = last + 1; view = last_view view (moments files base (first_part period last) es) } ∷ drop 1 (moments files base (second_part period last) es)
boundary files base period last view es cuts order =
    let same = sym (same_sight files base period last view es cuts order) in
    λ i. record { begin = last + 1; view = same i } ∷ marks_after files base (first_promised es) (second_part period last) [] es
