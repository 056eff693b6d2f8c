-- The moments of a period, by the entries before it and the others; and the count over these.
use Rattle.std.proofs.Common.{◌≡◌, ℕ, ◌+◌, ◌*◌, Bool, true, false, not, List, [], ◌∷◌, ◌++◌, Option, refl, ap, sym, ◌∙◌, append_assoc, append-nil, arith}
use Rattle.std.specs.Prelude.{nat_lt, if◌then◌else◌}
use Rattle.std.proofs.lemmas.Bool.Decides.{nat_tests}
use Rattle.nr_spec_log.specs.Chain.{LogEntry}
use Rattle.nr_spec_history.specs.Conflicts.{Period}
use Rattle.nr_spec_routes.specs.Rows.{rows_after}
use Rattle.nr_spec_report.specs.Wrong.{Base, is_within}
use Rattle.nr_spec_promises.specs.Files.{PromiseFile, first_promised}
use Rattle.nr_spec_promises.specs.Moments.{entries_before, marks_after, moments, view_after}
use Rattle.nr_spec_promises.specs.Counted.{asked_after, asked_next, in_view, most_asked, most_promises}
use Rattle.nr_judging.specs.Seen.{entries_since}
use Rattle.nr_judging.specs.Times.{NeverBack}
use Rattle.nr_judging.proofs.Since.{all_since, none_before, since_is}

outside : (p : Period) (n : ℕ) → nat_lt n p.from ≡ true → is_within p n ≡ false
outside p n h = grind (arith, nat_tests)

-- an entry before the period begins no moment
skips : (files : List PromiseFile) (base : Base) (first : Option (List ℕ)) (period : Period) (last : ℕ) (past es : List LogEntry) → NeverBack last es
    → marks_after files base first period past es ≡ marks_after files base first period (past ++ entries_before period es) (entries_since period es)
skips files base first period last past [] back = refl
skips files base first period last past (e ∷ es) back = by (nat_lt e.time period.from) refl (skips files base first period e.time (past ++ e ∷ []) es back.1)
  where
    by : (b : Bool) → nat_lt e.time period.from ≡ b
        → marks_after files base first period (past ++ e ∷ []) es ≡ marks_after files base first period (past ++ e ∷ [] ++ entries_before period es) (entries_since period es)
        → marks_after files base first period past (e ∷ es) ≡ marks_after files base first period (past ++ (if b then e ∷ entries_before period es else entries_before period es)) (if not b then e ∷ entries_since period es else entries_since period es)
    by true is ih =
        ap (λ w. (if w then record { begin = e.time; view = view_after files base first (past ++ e ∷ []) } ∷ [] else []) ++ marks_after files base first period (past ++ e ∷ []) es) (outside period e.time is) ∙ ih
        ∙ ap (λ l. marks_after files base first period l (entries_since period es)) (append_assoc past (e ∷ []) (entries_before period es))
    by false is ih =
        let le = since_is e.time period.from is in
        ap (λ l. marks_after files base first period past (e ∷ l)) (sym (all_since period e.time es back.1 le))
        ∙ ap (λ l. marks_after files base first period l (e ∷ entries_since period es)) (sym (append-nil past) ∙ ap (λ l. past ++ l) (sym (none_before period e.time es back.1 le)))

pub moments_are : (files : List PromiseFile) (base : Base) (period : Period) (entries : List LogEntry) → NeverBack 0 entries
    → moments files base period entries ≡ record { begin = period.from; view = view_after files base (first_promised entries) (entries_before period entries) }
    ∷ marks_after files base (first_promised entries) period (entries_before period entries) (entries_since period entries)
moments_are files base period entries back =
    ap (λ l. record { begin = period.from; view = view_after files base (first_promised entries) (entries_before period entries) } ∷ l) (skips files base (first_promised entries) period 0 [] entries back)

-- and asks nothing
skips_asking : (files : List PromiseFile) (base : Base) (first : Option (List ℕ)) (period : Period) (last : ℕ) (past es : List LogEntry) → NeverBack last es
    → asked_after files base first period past es ≡ asked_after files base first period (past ++ entries_before period es) (entries_since period es)
skips_asking files base first period last past [] back = refl
skips_asking files base first period last past (e ∷ es) back = by (nat_lt e.time period.from) refl (skips_asking files base first period e.time (past ++ e ∷ []) es back.1)
  where
    no_more : (n : ℕ) → 0 + n ≡ n
    no_more n = omega arith

    by : (b : Bool) → nat_lt e.time period.from ≡ b
        → asked_after files base first period (past ++ e ∷ []) es ≡ asked_after files base first period (past ++ e ∷ [] ++ entries_before period es) (entries_since period es)
        → asked_after files base first period past (e ∷ es) ≡ asked_after files base first period (past ++ (if b then e ∷ entries_before period es else entries_before period es)) (if not b then e ∷ entries_since period es else entries_since period es)
    by true is ih =
        ap (λ w. (if w then asked_next files base first past e else 0) + asked_after files base first period (past ++ e ∷ []) es) (outside period e.time is)
        ∙ no_more (asked_after files base first period (past ++ e ∷ []) es) ∙ ih
        ∙ ap (λ l. asked_after files base first period l (entries_since period es)) (append_assoc past (e ∷ []) (entries_before period es))
    by false is ih =
        let le = since_is e.time period.from is in
        ap (λ l. asked_after files base first period past (e ∷ l)) (sym (all_since period e.time es back.1 le))
        ∙ ap (λ l. asked_after files base first period l (e ∷ entries_since period es)) (sym (append-nil past) ∙ ap (λ l. past ++ l) (sym (none_before period e.time es back.1 le)))

pub most_is : (files : List PromiseFile) (base : Base) (period : Period) (entries : List LogEntry) → NeverBack 0 entries
    → most_asked files base period entries ≡ most_promises files * (in_view files (rows_after base.rows (entries_before period entries))
    + asked_after files base (first_promised entries) period (entries_before period entries) (entries_since period entries))
most_is files base period entries back =
    ap (λ n. most_promises files * (in_view files (rows_after base.rows (entries_before period entries)) + n)) (skips_asking files base (first_promised entries) period 0 [] entries back)
