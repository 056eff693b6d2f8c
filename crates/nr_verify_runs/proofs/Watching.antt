-- What one more moment makes of a watch.
use Rattle.nr_spec_claims.specs.Claims.{same_span}
use Rattle.nr_spec_runs.proofs.Rows.{begins, goes_on}
use Rattle.nr_spec_runs.specs.Runs.{Span}
use Rattle.nr_spec_runs.proofs.Rows.{ends, ends_as}
use Rattle.nr_spec_runs.specs.Runs.{Moment, runs_of}
use Rattle.nr_verify_runs.specs.Walked.{Watch, Watched}
use Rattle.std.proofs.Common.{cond, Bool, List, None, Option, Some, [], ap, false, refl, subst, sym, true, ℕ, ◌++◌, ◌||◌, ◌∙◌, ◌∷◌, ◌≡◌}
use Rattle.std.proofs.lemmas.List.Folds.{list_any-append}
use Rattle.std.specs.List.{list_any}

abbrev pub watch : Span → Option ℕ → Bool → Watch
watch span since found = record { span = span; since = since; found = found }

pub nothing_yet : (span : Span) → Watched [] (watch span None false)
nothing_yet span = record { runs = λ close. refl; bad = refl }

-- ---- where a run is open

open_with : (ms : List Moment) (span : Span) (since : Option ℕ) (b : ℕ) (found : Bool) → since ≡ Some b → Watched ms (watch span since found) → Watched ms (watch span (Some b) found)
open_with ms span since b found o h = subst (λ s. Watched ms (watch span s found)) o h

goes_so : (ms : List Moment) (m : Moment) (span : Span) (b : ℕ) (found : Bool) → Watched ms (watch span (Some b) found) → m.bad ≡ true → Watched (ms ++ m ∷ []) (watch span (Some b) found)
goes_so ms m span b found h e = record { runs = λ close. ap (list_any (same_span span)) (goes_on close ms m e h.bad) ∙ h.runs close; bad = ends_as ms m ∙ e }

pub goes : (ms : List Moment) (m : Moment) (span : Span) (since : Option ℕ) (b : ℕ) (found : Bool) → since ≡ Some b → Watched ms (watch span since found) → m.bad ≡ true → Watched (ms ++ m ∷ []) (watch span since found)
goes ms m span since b found o h e = subst (λ s. Watched (ms ++ m ∷ []) (watch span s found)) (sym o) (goes_so ms m span b found (open_with ms span since b found o h) e)

or_false : (a : Bool) → a ≡ (a || false)
or_false true = refl
or_false false = refl

pub ended : (ms : List Moment) (m : Moment) (span : Span) (since : Option ℕ) (b : ℕ) (found now : Bool) → since ≡ Some b → Watched ms (watch span since found) → m.bad ≡ false
    → now ≡ (found || same_span span (record { begin = b; end = m.begin })) → Watched (ms ++ m ∷ []) (watch span None now)
ended ms m span since b found now o h e n = record {
  runs = λ close. ap (list_any (same_span span)) (ends close ms m e) ∙ ((open_with ms span since b found o h).runs m.begin ∙ (sym n ∙ or_false now));
  bad = ends_as ms m ∙ e;
}

-- ---- where none is

shut : (ms : List Moment) (span : Span) (since : Option ℕ) (found : Bool) → since ≡ None → Watched ms (watch span since found) → Watched ms (watch span None found)
shut ms span since found o h = subst (λ s. Watched ms (watch span s found)) o h

idle_so : (ms : List Moment) (m : Moment) (span : Span) (found : Bool) → Watched ms (watch span None found) → m.bad ≡ false → Watched (ms ++ m ∷ []) (watch span None found)
idle_so ms m span found h e = record { runs = λ close. ap (list_any (same_span span)) (ends close ms m e) ∙ h.runs m.begin; bad = ends_as ms m ∙ e }

pub idle : (ms : List Moment) (m : Moment) (span : Span) (since : Option ℕ) (found : Bool) → since ≡ None → Watched ms (watch span since found) → m.bad ≡ false → Watched (ms ++ m ∷ []) (watch span since found)
idle ms m span since found o h e = subst (λ s. Watched (ms ++ m ∷ []) (watch span s found)) (sym o) (idle_so ms m span found (shut ms span since found o h) e)

or_none : (a b : Bool) → ((a || false) || (b || false)) ≡ (a || b)
or_none true true = refl
or_none true false = refl
or_none false true = refl
or_none false false = refl

first_so : (ms : List Moment) (m : Moment) (span : Span) (found : Bool) → Watched ms (watch span None found) → m.bad ≡ true → Watched (ms ++ m ∷ []) (watch span (Some m.begin) found)
first_so ms m span found h e = record {
  runs = λ close.
      let last : Span = record { begin = m.begin; end = close } in
      ap (list_any (same_span span)) (begins close ms m e h.bad) ∙ (list_any-append (same_span span) (runs_of close ms) (last ∷ [])
      ∙ (ap (λ t. t || (same_span span last || false)) (h.runs close) ∙ or_none found (same_span span last)));
  bad = ends_as ms m ∙ e;
}

pub first_bad : (ms : List Moment) (m : Moment) (span : Span) (since : Option ℕ) (found : Bool) → since ≡ None → Watched ms (watch span since found) → m.bad ≡ true → Watched (ms ++ m ∷ []) (watch span (Some m.begin) found)
first_bad ms m span since found o h e = first_so ms m span found (shut ms span since found o h) e
