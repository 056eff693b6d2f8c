-- Broken runs are long rows.
use Rattle.std.proofs.Common.{◌≡◌, inl, inr, ◌↔◌, ℕ, Bool, true, false, List, [], ◌∷◌, refl, ap, sym, ◌∙◌, subst}
use Rattle.std.specs.Prelude.{filter, map, if◌then◌else◌}
use Rattle.nr_spec_runs.specs.Runs.{Key, Run, Span, runs_of, spans_of}
use Rattle.nr_spec_runs.specs.Longest.{IsAmong, IsLongestRow}
use Rattle.nr_spec_runs.proofs.Longest.{exactly}
use Rattle.nr_spec_truth.specs.Truths.{Truth}
use Rattle.nr_spec_promises.specs.Files.{PromiseFile}
use Rattle.nr_spec_promises.specs.Moments.{Mark}
use Rattle.nr_spec_promises.specs.Broken.{AreBroken, is_broken, moment_at}

-- among those that pass
passes : (test : Span → Bool) (s : Span) (spans : List Span) → IsAmong s (filter test spans) → IsAmong s spans × (test s ≡ true)
passes test s [] h = absurd h
passes test s (x ∷ spans) h = by (test x) refl h (passes test s spans)
  where
    by : (b : Bool) → test x ≡ b → IsAmong s (if b then x ∷ filter test spans else filter test spans)
        → (IsAmong s (filter test spans) → IsAmong s spans × (test s ≡ true)) → IsAmong s (x ∷ spans) × (test s ≡ true)
    by true e (inl same) ih = (inl same, ap test same ∙ e)
    by true e (inr later) ih = let found = ih later in (inr found.0, found.1)
    by false e later ih = let found = ih later in (inr found.0, found.1)

stays : (test : Span → Bool) (s : Span) (spans : List Span) → test s ≡ true → IsAmong s spans → IsAmong s (filter test spans)
stays test s [] t h = h
stays test s (x ∷ spans) t h = by (test x) refl h (stays test s spans t)
  where
    by : (b : Bool) → test x ≡ b → IsAmong s (x ∷ spans) → (IsAmong s spans → IsAmong s (filter test spans))
        → IsAmong s (if b then x ∷ filter test spans else filter test spans)
    by true e (inl same) ih = inl same
    by true e (inr later) ih = inr (ih later)
    by false e (inl same) ih = absurd (let u : test s ≡ false = ap test same ∙ e in cc)
    by false e (inr later) ih = ih later

pub long_rows : (files : List PromiseFile) (truth : Truth) (marks : List Mark) (to : ℕ) (found : List Run) (key : Key) (s : Span)
    → AreBroken files truth marks to found → IsAmong s (spans_of key found)
    ↔ (IsLongestRow to (map (moment_at files truth key) marks) s × (is_broken files key s ≡ true))
long_rows files truth marks to found key s are =
    let runs : List Span = runs_of to (map (moment_at files truth key) marks) in
    let row = exactly to (map (moment_at files truth key) marks) s in (
      λ (h : IsAmong s (spans_of key found)).
          let both = passes (is_broken files key) s runs (subst (IsAmong s) (are.each key) h) in
          (row.0 both.0, both.1),
      λ (h : IsLongestRow to (map (moment_at files truth key) marks) s × (is_broken files key s ≡ true)).
          subst (IsAmong s) (sym (are.each key)) (stays (is_broken files key) s runs h.1 (row.1 h.0)),
    )
