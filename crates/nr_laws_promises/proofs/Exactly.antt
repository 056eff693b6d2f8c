-- The broken runs of a period are those of the function, and no others.
use Rattle.std.proofs.Common.{◌≡◌, ◌↔◌, ℕ, Bool, true, false, ◌||◌, List, [], ◌∷◌, ◌++◌, refl, ap, sym, subst, ◌∙◌}
use Rattle.std.specs.Prelude.{filter, map}
use Rattle.std.specs.List.{AllByRecursion, list_any}
use Rattle.std.specs.List.Sorted.{IsStrictlySortedBy}
use Rattle.nr_spec_log.specs.Chain.{LogEntry}
use Rattle.nr_spec_history.specs.Conflicts.{Period}
use Rattle.nr_spec_routes.specs.Keys.{standing}
use Rattle.nr_spec_routes.specs.Rows.{rows_after}
use Rattle.nr_spec_routes.proofs.Once.{sorted_once}
use Rattle.nr_spec_truth.specs.Truths.{Truth}
use Rattle.nr_spec_report.specs.Wrong.{Base}
use Rattle.nr_spec_runs.specs.Runs.{Key, Run, Span, key_cmp, runs_of, same_key, spans_of}
use Rattle.nr_spec_promises.specs.Files.{PromiseFile}
use Rattle.nr_spec_promises.specs.Moments.{Mark, entries_before, moments}
use Rattle.nr_spec_promises.specs.Broken.{AreBroken, is_broken, moment_at}
use Rattle.nr_spec_promises.specs.Counted.{named_by}
use Rattle.nr_spec_promises.specs.Found.{broken_runs, keys_from, prefixes_over, standing_within}
use Rattle.nr_laws_promises.specs.BrokenRows.{IsOneOf}
use Rattle.nr_laws_promises.proofs.Keys.{among_keys, keys_ascend, one_of_keys}
use Rattle.nr_laws_promises.proofs.Sight.{no_runs}
use Rattle.nr_laws_promises.proofs.Spans.{of_keys, only_ones, rises_all, rises_by_places, sorted_by_places, spans_apart, spans_there}

-- the keys at which a promise may be bad
abbrev pub keys_over : List PromiseFile → Base → Period → List LogEntry → List Key
keys_over files base period entries = keys_from (prefixes_over files base period entries) 0 files

pub ascend_over : (files : List PromiseFile) (base : Base) (period : Period) (entries : List LogEntry) → IsStrictlySortedBy key_cmp (keys_over files base period entries)
ascend_over files base period entries =
    keys_ascend (prefixes_over files base period entries) 0 files
    (sorted_once (standing (rows_after base.rows (entries_before period entries)) ++ (standing_within base period [] entries ++ named_by files)))

-- of each key the broken ones
abbrev pub spans_over : List PromiseFile → Truth → List Mark → ℕ → Key → List Span
spans_over files truth marks to key = filter (is_broken files key) (runs_of to (map (moment_at files truth key) marks))

apart_all : (key : Key) (keys : List Key) → list_any (same_key key) keys ≡ false → AllByRecursion (λ k. same_key key k ≡ false) keys
apart_all key [] h = tt
apart_all key (k ∷ keys) h = let parts = or_parts (same_key key k) (list_any (same_key key) keys) h in (parts.0, apart_all key keys parts.1)
  where
    or_parts : (a b : Bool) → (a || b) ≡ false → (a ≡ false) × (b ≡ false)
    or_parts true b h = absurd cc
    or_parts false b h = (refl, h)

clash : {A : Type 0} (b : Bool) → b ≡ true → b ≡ false → A
clash true h e = absurd cc
clash false h e = absurd cc

-- they are such
pub are_broken : (files : List PromiseFile) (truth : Truth) (base : Base) (period : Period) (entries : List LogEntry)
    → AreBroken files truth (moments files base period entries) period.to (broken_runs files truth base period entries)
unfolding broken_runs
are_broken files truth base period entries = record {
  ordered = sorted_by_places (of_keys spans keys) (rises_all spans keys ascend);
  each = λ (key : Key). by key (list_any (same_key key) keys) refl;
}
  where
    marks : List Mark
    marks = moments files base period entries

    spans : Key → List Span
    spans = spans_over files truth marks period.to

    keys : List Key
    keys = keys_over files base period entries

    ascend : IsStrictlySortedBy key_cmp keys
    ascend = ascend_over files base period entries

    by : (key : Key) (b : Bool) → list_any (same_key key) keys ≡ b → spans_of key (of_keys spans keys) ≡ spans key
    by key true e = spans_there spans key keys ascend (one_of_keys key keys e)
    by key false e =
        spans_apart spans key keys (apart_all key keys e)
        ∙ sym (ap (filter (is_broken files key)) (no_runs files truth base period entries key (λ (one : IsOneOf key keys). clash (list_any (same_key key) keys) (among_keys key keys one) e)))

-- and the only ones
pub broken_is : (files : List PromiseFile) (truth : Truth) (base : Base) (period : Period) (entries : List LogEntry) (found : List Run)
    → AreBroken files truth (moments files base period entries) period.to found → found ≡ broken_runs files truth base period entries
broken_is files truth base period entries found h =
    let those = are_broken files truth base period entries in
    only_ones found (broken_runs files truth base period entries) (rises_by_places found h.ordered) (rises_by_places (broken_runs files truth base period entries) those.ordered)
    (λ (key : Key). h.each key ∙ sym (those.each key))

pub exactly : (files : List PromiseFile) (truth : Truth) (base : Base) (period : Period) (entries : List LogEntry) (found : List Run)
    → AreBroken files truth (moments files base period entries) period.to found ↔ (found ≡ broken_runs files truth base period entries)
exactly files truth base period entries found = (
  broken_is files truth base period entries found,
  λ (same : found ≡ broken_runs files truth base period entries).
      subst (AreBroken files truth (moments files base period entries) period.to) (sym same) (are_broken files truth base period entries),
)
