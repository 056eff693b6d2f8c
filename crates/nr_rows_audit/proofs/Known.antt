-- A file without promises.
use Rattle.std.proofs.Common.{◌≡◌, ℕ, zero, suc, ◌<◌, ◌≤◌, List, [], ◌∷◌, length, subst, sym, arith}
use Rattle.std.specs.Prelude.{slice_index_or}
use Rattle.std.proofs.lemmas.Option.{same_Some, slice_get_within}
use Rattle.nr_spec_promises.specs.Files.{PromiseFile}
use Rattle.nr_judging.specs.Views.{AreFew, AreKnown}

abbrev file_by : List ℕ → PromiseFile
file_by digest = record { digest = digest; promises = [] }

-- nothing has to be known of it
pub none_known : (Known : ℕ → ℕ → Type 0) (digest : List ℕ) → AreKnown Known (file_by digest ∷ [])
none_known Known digest zero r g is below = absurd (out (subst (λ (f : PromiseFile). r < length f.promises) (sym (same_Some (file_by digest) g is)) below))
  where
    out : r < 0 → ⊥
    out h = omega (arith, h)
none_known Known digest (suc i) r g is below = absurd (out (slice_get_within (file_by digest ∷ []) (suc i) g is))
  where
    out : suc i < 1 → ⊥
    out h = omega (arith, h)

-- and it has few
pub none_few : (digest : List ℕ) → AreFew (file_by digest ∷ [])
none_few digest = record { files = omega arith; promises = each }
  where
    each : (k : ℕ) (d : PromiseFile) → k < 1 → length (slice_index_or (file_by digest ∷ []) k d).promises ≤ 256
    each zero d h = omega arith
    each (suc k) d h = absurd (omega (arith, h))
