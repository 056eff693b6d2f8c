-- What is told of the entries behind others, where these stand before the period.
use Rattle.std.proofs.Common.{◌≡◌, ℕ, ◌+◌, ◌<◌, true, false, cond, List, [], ◌∷◌, ◌++◌, length, Option, refl, sym, ap, ◌∙◌, append_assoc, append-nil, arith}
use Rattle.std.specs.Prelude.{nat_lt}
use Rattle.std.proofs.lemmas.List.{length-append}
use Rattle.std.proofs.lemmas.Bool.Decides.{nat_tests}
use Rattle.nr_spec_log.specs.Chain.{LogEntry}
use Rattle.nr_spec_history.specs.Conflicts.{Period}
use Rattle.nr_spec_counts.specs.Tallies.{Numbers}
use Rattle.nr_spec_report.specs.Wrong.{Base, cause_after, is_within, wrong_after, wrong_by, wrong_entries, wrong_next}
use Rattle.nr_spec_promises.specs.Moments.{entries_before}
use Rattle.nr_spec_bodies.specs.Bases.{state_after}
use Rattle.nr_spec_slices.specs.Slices.{AreBefore}
use Rattle.nr_laws_checkpoint.proofs.Standing.{cause_goes_on}

pub too_early : (period : Period) (n : ℕ) → n < period.from → is_within period n ≡ false
too_early period n h = grind (arith, nat_tests)

pub is_low : (n m : ℕ) → n < m → nat_lt n m ≡ true
is_low n m h = grind (arith, nat_tests)

-- those before the period are all the first, and those of the others
pub before_split : (period : Period) (past es : List LogEntry) → AreBefore period past → entries_before period (past ++ es) ≡ past ++ entries_before period es
before_split period [] es low = refl
before_split period (e ∷ past) es low =
    ap (λ b. cond b (e ∷ entries_before period (past ++ es)) (entries_before period (past ++ es))) (is_low e.time period.from low.0)
    ∙ ap (λ (l : List LogEntry). e ∷ l) (before_split period past es low.1)

-- ---- wrong entries

wrong_skip : (files : List Numbers) (base : Base) (period : Period) (first : ℕ) (before past es : List LogEntry) → AreBefore period past
    → wrong_after files base period first before (past ++ es) ≡ wrong_after files base period first (before ++ past) es
wrong_skip files base period first before [] es low = ap (λ (l : List LogEntry). wrong_after files base period first l es) (sym (append-nil before))
wrong_skip files base period first before (e ∷ past) es low =
    let seq = first + length before in
    ap (λ b. cond b (wrong_by seq (cause_after files base before seq e)) [] ++ wrong_after files base period first (before ++ e ∷ []) (past ++ es)) (too_early period e.time low.0)
    ∙ wrong_skip files base period first (before ++ e ∷ []) past es low.1
    ∙ ap (λ (l : List LogEntry). wrong_after files base period first l es) (append_assoc before (e ∷ []) past)

wrong_same : (files : List Numbers) (base : Base) (period : Period) (first : ℕ) (past later es : List LogEntry)
    → wrong_after files (state_after base past) period (first + length past) later es ≡ wrong_after files base period first (past ++ later) es
wrong_same files base period first past later [] = refl
wrong_same files base period first past later (e ∷ es) =
    let number : first + length past + length later ≡ first + length (past ++ later) = omega (arith, length-append past later) in
    let cause = cause_goes_on files base past later (first + length (past ++ later)) e in
    let here : wrong_next files (state_after base past) period (first + length past) later e ≡ wrong_next files base period first (past ++ later) e =
    ap (λ (k : ℕ). cond (is_within period e.time) (wrong_by k (cause_after files (state_after base past) later k e)) []) number
    ∙ ap (λ (c : Option _). cond (is_within period e.time) (wrong_by (first + length (past ++ later)) c) []) cause in
    let rest : wrong_after files (state_after base past) period (first + length past) (later ++ e ∷ []) es ≡ wrong_after files base period first ((past ++ later) ++ e ∷ []) es =
    wrong_same files base period first past (later ++ e ∷ []) es
    ∙ ap (λ (l : List LogEntry). wrong_after files base period first l es) (sym (append_assoc past later (e ∷ []))) in
    λ i. here i ++ rest i

pub wrong_goes_on : (files : List Numbers) (base : Base) (period : Period) (first : ℕ) (past es : List LogEntry) → AreBefore period past
    → wrong_entries files base period first (past ++ es) ≡ wrong_entries files (state_after base past) period (first + length past) es
wrong_goes_on files base period first past es low =
    wrong_skip files base period first [] past es low
    ∙ sym (wrong_same files base period first past [] es ∙ ap (λ (l : List LogEntry). wrong_after files base period first l es) (append-nil past))
