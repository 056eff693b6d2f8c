-- What an entry more makes of the moments.
use Rattle.std.proofs.Common.{◌≡◌, ◌≤◌, ◌<◌, ℕ, Bool, true, false, List, [], ◌∷◌, ◌++◌, drop, ap, sym, ◌∙◌, append_assoc, append-nil, Option, arith}
use Rattle.std.specs.Prelude.{nat_lt, if◌then◌else◌}
use Rattle.std.proofs.lemmas.List.Elements.{filter-append}
use Rattle.std.proofs.lemmas.Bool.Decides.{nat_tests}
use Rattle.nr_spec_log.specs.Chain.{LogEntry}
use Rattle.nr_spec_history.specs.Conflicts.{Period}
use Rattle.nr_spec_report.specs.Wrong.{Base, is_within}
use Rattle.nr_spec_promises.specs.Files.{PromiseFile, first_promised}
use Rattle.nr_spec_promises.specs.Moments.{Mark, entries_before, marks_after, moments, view_after}

-- the moment of an entry after these, where its time is in the period
abbrev marks_if : Bool → Mark → List Mark
marks_if within m = if within then m ∷ [] else []

abbrev mark_after : List PromiseFile → Base → Option (List ℕ) → List LogEntry → LogEntry → Mark
mark_after files base first past e = record { begin = e.time; view = view_after files base first (past ++ e ∷ []) }

one_after : (files : List PromiseFile) (base : Base) (first : Option (List ℕ)) (period : Period) (past es : List LogEntry) (e : LogEntry)
    → marks_after files base first period past (es ++ e ∷ [])
    ≡ marks_after files base first period past es ++ marks_if (is_within period e.time) (mark_after files base first (past ++ es) e)
one_after files base first period past [] e =
    append-nil (marks_if (is_within period e.time) (mark_after files base first past e))
    ∙ ap (λ (l : List LogEntry). marks_if (is_within period e.time) (mark_after files base first l e)) (sym (append-nil past))
one_after files base first period past (f ∷ es) e =
    let here : List Mark = marks_if (is_within period f.time) (mark_after files base first past f) in
    let later : List LogEntry = past ++ f ∷ [] in
    ap (λ (l : List Mark). here ++ l) (one_after files base first period later es e)
    ∙ (sym (append_assoc here (marks_after files base first period later es) (marks_if (is_within period e.time) (mark_after files base first (later ++ es) e)))
    ∙ ap (λ (l : List LogEntry). (here ++ marks_after files base first period later es) ++ marks_if (is_within period e.time) (mark_after files base first l e))
    (append_assoc past (f ∷ []) es))

before_more : (period : Period) (past : List LogEntry) (e : LogEntry)
    → entries_before period (past ++ e ∷ []) ≡ entries_before period past ++ (if nat_lt e.time period.from then e ∷ [] else [])
before_more period past e = filter-append (λ (x : LogEntry). nat_lt x.time period.from) past (e ∷ [])

-- the moments, by the entries before the period and by all
abbrev by_first : List PromiseFile → Base → Period → Option (List ℕ) → List LogEntry → List LogEntry → List Mark
by_first files base period first before entries =
    record { begin = period.from; view = view_after files base first before } ∷ marks_after files base first period [] entries

more : (files : List PromiseFile) (base : Base) (period : Period) (past : List LogEntry) (e : LogEntry) (low within : Bool)
    → nat_lt e.time period.from ≡ low → is_within period e.time ≡ within → first_promised (past ++ e ∷ []) ≡ first_promised past
    → moments files base period (past ++ e ∷ [])
    ≡ record { begin = period.from; view = view_after files base (first_promised past) (entries_before period past ++ (if low then e ∷ [] else [])) }
    ∷ (marks_after files base (first_promised past) period [] past ++ marks_if within (mark_after files base (first_promised past) past e))
more files base period past e low within is_low is_in same =
    ap (λ (f : Option (List ℕ)). by_first files base period f (entries_before period (past ++ e ∷ [])) (past ++ e ∷ [])) same
    ∙ ap (λ (l : List LogEntry). by_first files base period (first_promised past) l (past ++ e ∷ []))
    (before_more period past e ∙ ap (λ b. entries_before period past ++ (if b then e ∷ [] else [])) is_low)
    ∙ ap (λ (l : List Mark). record { begin = period.from; view = view_after files base (first_promised past) (entries_before period past ++ (if low then e ∷ [] else [])) } ∷ l)
    (one_after files base (first_promised past) period [] past e
    ∙ ap (λ b. marks_after files base (first_promised past) period [] past ++ marks_if b (mark_after files base (first_promised past) past e)) is_in)

not_low : (n m : ℕ) → m ≤ n → nat_lt n m ≡ false
not_low n m h = grind (arith, nat_tests)

is_low : (n m : ℕ) → n < m → nat_lt n m ≡ true
is_low n m h = grind (arith, nat_tests)

inside : (period : Period) (n : ℕ) → period.from ≤ n → n ≤ period.to → is_within period n ≡ true
inside period n h k = grind (arith, nat_tests)

too_late : (period : Period) (n : ℕ) → period.to < n → is_within period n ≡ false
too_late period n h = grind (arith, nat_tests)

too_early : (period : Period) (n : ℕ) → n < period.from → is_within period n ≡ false
too_early period n h = grind (arith, nat_tests)

pub one_within : (files : List PromiseFile) (base : Base) (period : Period) (past : List LogEntry) (e : LogEntry)
    → first_promised (past ++ e ∷ []) ≡ first_promised past → period.from ≤ e.time → e.time ≤ period.to
    → moments files base period (past ++ e ∷ [])
    ≡ moments files base period past ++ record { begin = e.time; view = view_after files base (first_promised past) (past ++ e ∷ []) } ∷ []
one_within files base period past e same low high =
    more files base period past e false true (not_low e.time period.from low) (inside period e.time low high) same
    ∙ ap (λ (l : List LogEntry). by_first files base period (first_promised past) l past ++ mark_after files base (first_promised past) past e ∷ []) (append-nil (entries_before period past))

pub none_after : (files : List PromiseFile) (base : Base) (period : Period) (past : List LogEntry) (e : LogEntry)
    → first_promised (past ++ e ∷ []) ≡ first_promised past → period.from ≤ e.time → period.to < e.time
    → moments files base period (past ++ e ∷ []) ≡ moments files base period past
none_after files base period past e same low late =
    more files base period past e false false (not_low e.time period.from low) (too_late period e.time late) same
    ∙ ap (λ (l : List LogEntry). record { begin = period.from; view = view_after files base (first_promised past) l } ∷ (marks_after files base (first_promised past) period [] past ++ []))
    (append-nil (entries_before period past))
    ∙ ap (λ (l : List Mark). record { begin = period.from; view = view_after files base (first_promised past) (entries_before period past) } ∷ l)
    (append-nil (marks_after files base (first_promised past) period [] past))

pub first_alone : (files : List PromiseFile) (base : Base) (period : Period) (past : List LogEntry) (e : LogEntry)
    → first_promised (past ++ e ∷ []) ≡ first_promised past → e.time < period.from
    → moments files base period (past ++ e ∷ [])
    ≡ record { begin = period.from; view = view_after files base (first_promised past) (entries_before period past ++ e ∷ []) }
    ∷ drop 1 (moments files base period past)
first_alone files base period past e same early =
    more files base period past e true false (is_low e.time period.from early) (too_early period e.time early) same
    ∙ ap (λ (l : List Mark). record { begin = period.from; view = view_after files base (first_promised past) (entries_before period past ++ e ∷ []) } ∷ l)
    (append-nil (marks_after files base (first_promised past) period [] past))
