-- The broken runs in a reader's words: of each promise and prefix the longest rows of neighbouring bad moments.
use Rattle.std.specs.Prelude.{◌≡◌, ◌≤◌, ◌⊎◌, ◌↔◌, ℕ, ◌+◌, ◌*◌, true, false, List, [], ◌∷◌, ◌++◌, length}
use Rattle.std.specs.Prelude.{map, Some, slice_get}
use Rattle.std.specs.List.{AllByRecursion}
use Rattle.std.specs.List.Sorted.{IsStrictlySortedBy}
use Rattle.std.specs.declared.cmp.Ordering.{Ordering}
use Rattle.std.specs.Ordering.{nat_cmp, on, then_cmp}
use Rattle.nr_spec_bgp.specs.Prefixes.{Cidr}
use Rattle.nr_spec_typing.specs.declared.text.Promise.{Promise}
use Rattle.nr_spec_truth.specs.Truths.{Truth}
use Rattle.nr_spec_runs.specs.Runs.{Key, Run, key_cmp}
use Rattle.nr_spec_promises.specs.Files.{PromiseFile}
use Rattle.nr_spec_promises.specs.Moments.{Mark, View}

-- it is an element of this list
abbrev pub IsOneOf : {X : Type 0} → X → List X → Type 0
IsOneOf x [] = ⊥
IsOneOf x (y ∷ ys) = (x ≡ y) ⊎ IsOneOf x ys

-- The promise of a key is there.
pub record IsPromiseAt (files : List PromiseFile) (key : Key) (promise : Promise) : Type 0 where
  pub file : PromiseFile
  pub of_files : slice_get files key.file ≡ Some file
  pub of_file : slice_get file.promises key.promise ≡ Some promise

-- A promise that names no prefix by `at` is judged on those that stand, and another on those that it names.
abbrev pub IsJudged : Promise → View → Cidr → Type 0
IsJudged promise view p = ((promise.at ≡ []) × (view.stands p ≡ true)) ⊎ IsOneOf p promise.at

-- The moment belongs to the file, the promise is judged then, and its formula isn't true.
pub record IsBadAt (truth : Truth) (key : Key) (promise : Promise) (m : Mark) : Type 0 where
  pub belongs : m.view.file ≡ Some key.file
  pub judged : IsJudged promise m.view key.prefix
  pub untrue : truth key.file key.promise (m.view.scene key.prefix) ≡ false

-- when the first of these moments begins, or where there is none the end of the period
abbrev pub begin_of : ℕ → List Mark → ℕ
begin_of to [] = to
begin_of to (m ∷ later) = m.begin

-- a run, and how many moments stand before it
pub record PlacedRun : Type 0 where
  pub run : Run
  pub place : ℕ

-- The promise is there, and the run is that of a row of moments at which it is bad, from where the first begins to
-- where the one after the row does. Neither that one nor the one before the row is bad. It lasts at least as long as
-- the grace, which is in seconds.
pub record IsBrokenRow (files : List PromiseFile) (truth : Truth) (marks : List Mark) (to : ℕ) (p : PlacedRun)
    : Type 0 where
  pub promise : Promise
  pub there : IsPromiseAt files p.run.key promise
  pub front : List Mark
  pub first : Mark
  pub row : List Mark
  pub back : List Mark
  pub split : marks ≡ front ++ first ∷ (row ++ back)
  pub placed : p.place ≡ length front
  pub bad : AllByRecursion (IsBadAt truth p.run.key promise) (first ∷ row)
  pub before : (earlier : List Mark) (m : Mark) → front ≡ earlier ++ m ∷ []
      → IsBadAt truth p.run.key promise m → ⊥
  pub after : (m : Mark) (later : List Mark) → back ≡ m ∷ later → IsBadAt truth p.run.key promise m → ⊥
  pub begins : p.run.span.begin ≡ first.begin
  pub ends : p.run.span.end ≡ begin_of to back
  pub lasts : p.run.span.begin + promise.grace * 1000000 ≤ p.run.span.end

-- by file, promise and prefix, and those of one promise and prefix in the order in which they begin
abbrev pub place_cmp : PlacedRun → PlacedRun → Ordering
place_cmp = then_cmp (on (λ (p : PlacedRun). p.run.key) key_cmp) (on (λ (p : PlacedRun). p.place) nat_cmp)

-- All of them, each once, in order.
pub record AreBrokenRows (files : List PromiseFile) (truth : Truth) (marks : List Mark) (to : ℕ) (found : List Run)
    : Type 0 where
  pub rows : List PlacedRun
  pub runs : found ≡ map (λ (p : PlacedRun). p.run) rows
  pub order : IsStrictlySortedBy place_cmp rows
  pub each : (p : PlacedRun) → IsOneOf p rows ↔ IsBrokenRow files truth marks to p
