-- Moments, broken runs and promises in force over entries that stand behind others, where these stand before the period.
use Rattle.std.proofs.Common.{◌≡◌, ℕ, cond, List, [], ◌∷◌, ◌++◌, filter, Option, Some, None, refl, sym, ap, ◌∙◌, append_assoc, append-nil}
use Rattle.std.specs.List.{flat_map}
use Rattle.nr_spec_log.specs.Chain.{LogEntry}
use Rattle.nr_spec_history.specs.Conflicts.{Period}
use Rattle.nr_spec_entry.specs.ContentReading.{content_of}
use Rattle.nr_spec_routes.specs.Keys.{each_once, standing}
use Rattle.nr_spec_routes.specs.LookBack.{last_of, later_or}
use Rattle.nr_spec_routes.specs.Rows.{rows_after}
use Rattle.nr_spec_counts.specs.Tallies.{Numbers, promise_in, tally_after}
use Rattle.nr_spec_report.specs.Wrong.{Base, is_within}
use Rattle.nr_spec_truth.specs.Truths.{Truth}
use Rattle.nr_spec_promises.specs.Files.{PromiseFile, file_with, first_promised, force_or, ruling}
use Rattle.nr_spec_promises.specs.Moments.{entries_before, marks_after, moments, view_after, view_of}
use Rattle.nr_spec_promises.specs.Counted.{named_by}
use Rattle.nr_spec_promises.specs.Found.{broken_at, broken_runs, keys_from, prefixes_over, standing_within}
use Rattle.nr_spec_promises.proofs.Following.{follows}
use Rattle.nr_spec_outcome.specs.Outcome.{digest_list, digests_in_force, digests_within, force_before, promised}
use Rattle.nr_laws_accuracy.proofs.Slices.{tally_append}
use Rattle.nr_spec_bodies.specs.Bases.{state_after}
use Rattle.nr_spec_slices.specs.Slices.{AreBefore}
use Rattle.nr_laws_checkpoint.proofs.Standing.{state_goes_on}
use Rattle.nr_laws_checkpoint.proofs.Entries.{before_split, too_early}

-- ---- the file to which a state belongs

none_later : {A : Type 0} (x y : Option A) → later_or x y ≡ None → y ≡ None
none_later None y h = h
none_later (Some a) y h = absurd cc

none_before : (base : Base) (past later : List LogEntry) → (tally_after (tally_after base.tally past) later).in_force ≡ None → (tally_after base.tally past).in_force ≡ None
unfolding tally_after
none_before base past later h = none_later (last_of (λ (e : LogEntry). promise_in (content_of e)) later) (tally_after base.tally past).in_force h

-- Where no promise is in force behind the first entries, none of them is a PROMISE.
first_same : (base : Base) (past later es : List LogEntry) (force : Option Numbers) → (tally_after (tally_after base.tally past) later).in_force ≡ force
    → force_or force (first_promised es) ≡ force_or force (first_promised (past ++ es))
first_same base past later es (Some numbers) h = refl
first_same base past later es None h = sym (follows base past es (none_before base past later h))

pub ruling_goes_on : (base : Base) (past es later : List LogEntry) → ruling (state_after base past) (first_promised es) later ≡ ruling base (first_promised (past ++ es)) (past ++ later)
ruling_goes_on base past es later =
    first_same base past later es (tally_after (tally_after base.tally past) later).in_force refl
    ∙ ap (λ t. force_or t.in_force (first_promised (past ++ es))) (sym (tally_append past later base.tally))

pub view_goes_on : (files : List PromiseFile) (base : Base) (past es later : List LogEntry)
    → view_after files (state_after base past) (first_promised es) later ≡ view_after files base (first_promised (past ++ es)) (past ++ later)
view_goes_on files base past es later = λ i. view_of (state_goes_on base past later i).rows (file_with files (ruling_goes_on base past es later i))

-- ---- moments

marks_skip : (files : List PromiseFile) (base : Base) (first : Option (List ℕ)) (period : Period) (before past es : List LogEntry) → AreBefore period past
    → marks_after files base first period before (past ++ es) ≡ marks_after files base first period (before ++ past) es
marks_skip files base first period before [] es low = ap (λ (l : List LogEntry). marks_after files base first period l es) (sym (append-nil before))
marks_skip files base first period before (e ∷ past) es low =
    ap (λ b. cond b (record { begin = e.time; view = view_after files base first (before ++ e ∷ []) } ∷ []) [] ++ marks_after files base first period (before ++ e ∷ []) (past ++ es)) (too_early period e.time low.0)
    ∙ marks_skip files base first period (before ++ e ∷ []) past es low.1
    ∙ ap (λ (l : List LogEntry). marks_after files base first period l es) (append_assoc before (e ∷ []) past)

marks_same : (files : List PromiseFile) (base : Base) (period : Period) (past all later es : List LogEntry)
    → marks_after files (state_after base past) (first_promised all) period later es ≡ marks_after files base (first_promised (past ++ all)) period (past ++ later) es
marks_same files base period past all later [] = refl
marks_same files base period past all later (e ∷ es) =
    let view : view_after files (state_after base past) (first_promised all) (later ++ e ∷ []) ≡ view_after files base (first_promised (past ++ all)) ((past ++ later) ++ e ∷ []) =
    view_goes_on files base past all (later ++ e ∷ [])
    ∙ ap (view_after files base (first_promised (past ++ all))) (sym (append_assoc past later (e ∷ []))) in
    let rest : marks_after files (state_after base past) (first_promised all) period (later ++ e ∷ []) es ≡ marks_after files base (first_promised (past ++ all)) period ((past ++ later) ++ e ∷ []) es =
    marks_same files base period past all (later ++ e ∷ []) es
    ∙ ap (λ (l : List LogEntry). marks_after files base (first_promised (past ++ all)) period l es) (sym (append_assoc past later (e ∷ []))) in
    λ i. cond (is_within period e.time) (record { begin = e.time; view = view i } ∷ []) [] ++ rest i

pub moments_go_on : (files : List PromiseFile) (base : Base) (period : Period) (past es : List LogEntry) → AreBefore period past
    → moments files base period (past ++ es) ≡ moments files (state_after base past) period es
moments_go_on files base period past es low =
    let first : view_after files base (first_promised (past ++ es)) (entries_before period (past ++ es)) ≡ view_after files (state_after base past) (first_promised es) (entries_before period es) =
    ap (view_after files base (first_promised (past ++ es))) (before_split period past es low)
    ∙ sym (view_goes_on files base past es (entries_before period es)) in
    let rest : marks_after files base (first_promised (past ++ es)) period [] (past ++ es) ≡ marks_after files (state_after base past) (first_promised es) period [] es =
    marks_skip files base (first_promised (past ++ es)) period [] past es low
    ∙ sym (marks_same files base period past es [] es ∙ ap (λ (l : List LogEntry). marks_after files base (first_promised (past ++ es)) period l es) (append-nil past)) in
    λ i. record { begin = period.from; view = first i } ∷ rest i

-- ---- broken runs

standing_skip : (base : Base) (period : Period) (before past es : List LogEntry) → AreBefore period past
    → standing_within base period before (past ++ es) ≡ standing_within base period (before ++ past) es
standing_skip base period before [] es low = ap (λ (l : List LogEntry). standing_within base period l es) (sym (append-nil before))
standing_skip base period before (e ∷ past) es low =
    ap (λ b. cond b (standing (rows_after base.rows (before ++ e ∷ []))) [] ++ standing_within base period (before ++ e ∷ []) (past ++ es)) (too_early period e.time low.0)
    ∙ standing_skip base period (before ++ e ∷ []) past es low.1
    ∙ ap (λ (l : List LogEntry). standing_within base period l es) (append_assoc before (e ∷ []) past)

standing_same : (base : Base) (period : Period) (past later es : List LogEntry)
    → standing_within (state_after base past) period later es ≡ standing_within base period (past ++ later) es
standing_same base period past later [] = refl
standing_same base period past later (e ∷ es) =
    let rows : rows_after (rows_after base.rows past) (later ++ e ∷ []) ≡ rows_after base.rows ((past ++ later) ++ e ∷ []) =
    ap (λ (b : Base). b.rows) (state_goes_on base past (later ++ e ∷ []))
    ∙ ap (rows_after base.rows) (sym (append_assoc past later (e ∷ []))) in
    let rest : standing_within (state_after base past) period (later ++ e ∷ []) es ≡ standing_within base period ((past ++ later) ++ e ∷ []) es =
    standing_same base period past (later ++ e ∷ []) es
    ∙ ap (λ (l : List LogEntry). standing_within base period l es) (sym (append_assoc past later (e ∷ []))) in
    λ i. cond (is_within period e.time) (standing (rows i)) [] ++ rest i

prefixes_go_on : (files : List PromiseFile) (base : Base) (period : Period) (past es : List LogEntry) → AreBefore period past
    → prefixes_over files base period (past ++ es) ≡ prefixes_over files (state_after base past) period es
prefixes_go_on files base period past es low =
    let first : rows_after base.rows (entries_before period (past ++ es)) ≡ rows_after (rows_after base.rows past) (entries_before period es) =
    ap (rows_after base.rows) (before_split period past es low)
    ∙ sym (ap (λ (b : Base). b.rows) (state_goes_on base past (entries_before period es))) in
    let rest : standing_within base period [] (past ++ es) ≡ standing_within (state_after base past) period [] es =
    standing_skip base period [] past es low
    ∙ sym (standing_same base period past [] es ∙ ap (λ (l : List LogEntry). standing_within base period l es) (append-nil past)) in
    λ i. each_once (standing (first i) ++ (rest i ++ named_by files))

pub broken_go_on : (files : List PromiseFile) (truth : Truth) (base : Base) (period : Period) (past es : List LogEntry) → AreBefore period past
    → broken_runs files truth base period (past ++ es) ≡ broken_runs files truth (state_after base past) period es
unfolding broken_runs
broken_go_on files truth base period past es low =
    let marks = moments_go_on files base period past es low in
    let prefixes = prefixes_go_on files base period past es low in
    λ i. flat_map (broken_at files truth (marks i) period.to) (keys_from (prefixes i) 0 files)

-- ---- promises in force

within_skip : (period : Period) (past es : List LogEntry) → AreBefore period past → digests_within period (past ++ es) ≡ digests_within period es
within_skip period [] es low = refl
within_skip period (e ∷ past) es low =
    ap (λ b. flat_map promised (cond b (e ∷ filter (λ (x : LogEntry). is_within period x.time) (past ++ es)) (filter (λ (x : LogEntry). is_within period x.time) (past ++ es)))) (too_early period e.time low.0)
    ∙ within_skip period past es low.1

pub force_goes_on : (base : Base) (period : Period) (past es : List LogEntry) → AreBefore period past
    → digests_in_force base period (past ++ es) ≡ digests_in_force (state_after base past) period es
force_goes_on base period past es low =
    let before : force_before base period (past ++ es) ≡ force_before (state_after base past) period es =
    ap (λ (l : List LogEntry). (tally_after base.tally l).in_force) (before_split period past es low)
    ∙ sym (ap (λ (b : Base). b.tally.in_force) (state_goes_on base past (entries_before period es))) in
    let within = within_skip period past es low in
    λ i. digest_list (before i) ++ within i
