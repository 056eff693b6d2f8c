-- The broken ones among runs that are in order.
use Rattle.std.proofs.Common.{◌≡◌, ◌==◌, eqb-true, Bool, true, false, List, [], ◌∷◌, refl, ap, sym, ◌∙◌}
use Rattle.std.specs.Prelude.{filter, map, slice_get, IsSortedByKey, if◌then◌else◌}
use Rattle.std.specs.Cmp.{IsTotalOrder, nat_cmp_total}
use Rattle.std.proofs.lemmas.Cmp.{on_total, then_total}
use Rattle.std.proofs.lemmas.List.Kept.{IsSortedBy-filter}
use Rattle.std.proofs.lemmas.List.MinMax.{ranks_by}
use Rattle.nr_spec_log.specs.Chain.{LogEntry}
use Rattle.nr_spec_history.specs.Conflicts.{Period}
use Rattle.nr_spec_truth.specs.Truths.{Truth}
use Rattle.nr_spec_report.specs.Wrong.{Base}
use Rattle.nr_spec_runs.specs.Runs.{AreRuns, Key, Run, is_run_of, key_cmp, runs_of, same_key, same_prefix, same_promise, spans_of}
use Rattle.nr_spec_promises.specs.Files.{PromiseFile, first_promised, promise_of}
use Rattle.nr_spec_promises.specs.Moments.{entries_before, moments}
use Rattle.nr_spec_promises.specs.Broken.{AreBroken, is_broken, lasts, moment_at}
use Rattle.nr_runs.specs.declared.runs.Run as code
use Rattle.nr_runs.specs.Views.{run_of, runs_in}
use Rattle.nr_judging.specs.Asked.{asked, stages_of}
use Rattle.nr_judging.specs.Seen.{entries_since}
use Rattle.nr_judging.specs.Times.{NeverBack}
use Rattle.nr_judging.proofs.Told.{of_both}
use Rattle.nr_judging.proofs.Steady.{told_touched}
use Rattle.nr_judging.proofs.Since.{since_later}
use Rattle.nr_judging.proofs.Marks.{moments_are}

keys_total : IsTotalOrder key_cmp
keys_total =
    then_total (on_total (λ (k : Key). k.file) nat_cmp_total) (then_total (on_total (λ (k : Key). k.promise) nat_cmp_total)
    (then_total (on_total (λ (k : Key). k.prefix.addr) nat_cmp_total) (on_total (λ (k : Key). k.prefix.len) nat_cmp_total)))

abbrev pub broken : List PromiseFile → Run → Bool
broken files r = is_broken files r.key r.span

kept_runs : (files : List PromiseFile) (runs : List code.Run) → runs_in (filter (λ r. is_broken files (run_of r).key (run_of r).span) runs) ≡ filter (broken files) (runs_in runs)
kept_runs files [] = refl
kept_runs files (r ∷ runs) = by_broken (broken files (run_of r)) (kept_runs files runs) where
  by_broken : (b : Bool) → runs_in (filter (λ r. is_broken files (run_of r).key (run_of r).span) runs) ≡ filter (broken files) (runs_in runs)
      → runs_in (if b then r ∷ filter (λ r. is_broken files (run_of r).key (run_of r).span) runs else filter (λ r. is_broken files (run_of r).key (run_of r).span) runs)
      ≡ (if b then run_of r ∷ filter (broken files) (runs_in runs) else filter (broken files) (runs_in runs))
  by_broken true ih = ap (λ l. run_of r ∷ l) ih
  by_broken false ih = ih

kept_order : (files : List PromiseFile) (runs : List Run) → IsSortedByKey (λ (r : Run). r.key) key_cmp runs → IsSortedByKey (λ (r : Run). r.key) key_cmp (filter (broken files) runs)
kept_order files runs h = IsSortedBy-filter _ (ranks_by keys_total (λ (r : Run). r.key)) (broken files) runs h

-- runs of one key are of one promise
same_broken : (files : List PromiseFile) (key : Key) (r : Run) → same_key key r.key ≡ true → broken files r ≡ is_broken files key r.span
same_broken files key r h =
    let numbers = of_both (key.file == r.key.file) (key.promise == r.key.promise) (of_both (same_promise key r.key) (same_prefix key.prefix r.key.prefix) h).0 in
    ap (λ i. lasts (promise_of (slice_get files i) r.key.promise) r.span) (sym (eqb-true key.file r.key.file numbers.0))
    ∙ ap (λ n. lasts (promise_of (slice_get files key.file) n) r.span) (sym (eqb-true key.promise r.key.promise numbers.1))

kept_spans : (files : List PromiseFile) (key : Key) (runs : List Run) → spans_of key (filter (broken files) runs) ≡ filter (is_broken files key) (spans_of key runs)
kept_spans files key [] = refl
kept_spans files key (r ∷ runs) = by_both (is_run_of key r) (broken files r) refl refl (kept_spans files key runs) where
  by_both : (same b : Bool) → is_run_of key r ≡ same → broken files r ≡ b → spans_of key (filter (broken files) runs) ≡ filter (is_broken files key) (spans_of key runs)
      → spans_of key (filter (broken files) (r ∷ runs)) ≡ filter (is_broken files key) (spans_of key (r ∷ runs))
  by_both true true s e ih =
      let k : is_broken files key r.span ≡ true = sym (same_broken files key r s) ∙ e in
      rw (e, s, k) (ap (λ l. r.span ∷ l) ih)
  by_both true false s e ih =
      let k : is_broken files key r.span ≡ false = sym (same_broken files key r s) ∙ e in
      rw (e, s, k) ih
  by_both false true s e ih = rw (e, s) ih
  by_both false false s e ih = rw (e, s) ih

pub are_broken : (files : List PromiseFile) (truth : Truth) (base : Base) (period : Period) (entries : List LogEntry) (runs kept : List code.Run) → NeverBack 0 entries
    → AreRuns period.to (asked files truth (stages_of files base (first_promised entries) period (entries_before period entries) (entries_since period entries))) (runs_in runs)
    → kept ≡ filter (λ r. is_broken files (run_of r).key (run_of r).span) runs
    → AreBroken files truth (moments files base period entries) period.to (runs_in kept)
are_broken files truth base period entries runs kept back h e =
    let same : runs_in kept ≡ filter (broken files) (runs_in runs) = ap runs_in e ∙ kept_runs files runs in
    record {
      ordered = rw same (kept_order files (runs_in runs) h.ordered);
      each = λ (key : Key).
          ap (spans_of key) same ∙ kept_spans files key (runs_in runs)
          ∙ ap (filter (is_broken files key)) (h.each key
          ∙ told_touched files truth key base (first_promised entries) period (entries_before period entries) (entries_since period entries) (since_later period 0 entries back)
          ∙ ap (λ l. runs_of period.to (map (moment_at files truth key) l)) (sym (moments_are files base period entries back)));
    }
